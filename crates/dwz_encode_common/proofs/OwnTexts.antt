-- A text that stood where it was read is one of its own file; once the lists have the texts of the common file it stands there still in an
-- entry that isn't written in the common file, or is one that the file shares.
use Rattle.std.proofs.Common.{◌≡◌, ℕ, zero, suc, ◌+◌, Bool, true, false, List, [], ◌∷◌, cond, map, None, Option, Some, slice_get, sym, ap, subst, ◌∙◌, arith}
use Rattle.std.specs.List.{filter, flat_map}
use Rattle.std.specs.Option.{option_map_or}
use Rattle.std.specs.Prelude.{slice_index_or}
use Rattle.std.proofs.lemmas.List.Concat.{flat_map-cons}
use Rattle.std.proofs.lemmas.Option.{get_or_from_slice_get}
use Rattle.dwz_def_reading.specs.Entries.{RawAttr}
use Rattle.dwz_def_reading.specs.Units.{RawUnit}
use Rattle.dwz_def_reading.proofs.ListFacts.{got_below, got_there}
use Rattle.dwz_def_reading.specs.Documents.{Node}
use Rattle.dwz_def_reading.specs.Files.{around_of}
use Rattle.dwz_def_reading.specs.Meanings.{Around, first_raw}
use Rattle.dwz_def_reading.specs.Lists.{Each}
use Rattle.dwz_def_tops.proofs.Members.{each_append}
use Rattle.dwz_def_tops.specs.Spots.{name_of}
use Rattle.dwz_unit.specs.Rows.{EntryRow, rows_of, units_of as raw_units}
use Rattle.dwz_graph.specs.declared.file.File.{File}
use Rattle.dwz_graph.specs.Index.{Index}
use Rattle.dwz_layout_numbers.specs.Befores.{is_pair_placed}
use Rattle.dwz_graph.specs.EntryCounts.{starts_from}
use Rattle.dwz_def_encoding.specs.Placing.{has_text, text_place}
use Rattle.dwz_def_readback.specs.Files.{texts_by}
use Rattle.dwz_layout.specs.declared.known.FileRows.{FileRows}
use Rattle.dwz_layout.specs.declared.known.EntryTable.{EntryTable}
use Rattle.dwz_layout.specs.declared.known.SpaceRow.{SpaceRow}
use Rattle.dwz_layout.specs.declared.known.TextAt.{TextAt}
use Rattle.dwz_layout.specs.declared.known.TextAt.TheVariants.{Shared}
use Rattle.dwz_layout.specs.Known.{no_space, no_text, space_at, text_at, text_held}
use Rattle.dwz_law_layout.specs.Knows.{IsRead, name_attr}
use Rattle.dwz_law_layout.specs.Beside.{Beside}
use Rattle.dwz_law_layout.specs.Facts.{AreFacts, HasFile, RunFacts, common, file_read, run}
use Rattle.dwz_law_layout.specs.Listed.{AreListed, TextsAt, entry_row, space_entries}
use Rattle.dwz_encode_texts.specs.Names.{named_text, row_name}
use Rattle.dwz_encode_texts.specs.Texts.{own_text, row_texts, slots_base_at}
use Rattle.dwz_encode_texts.specs.TextLaws.{StandAsRead}
use Rattle.dwz_encode_texts.proofs.FileTexts.{has_rows, space_row}
use Rattle.dwz_encode_texts.specs.MovedTexts.{IsPooled}
use Rattle.dwz_encode_common.specs.Gathered.{text_said}
use Rattle.dwz_encode_common.specs.Placed.{name_place, shares_in}
use Rattle.dwz_encode_common.specs.Pooled.{NameNotPooledLaw, NotPooledLaw}
use Rattle.dwz_encode_common.specs.Shared.{placed_text}
use Rattle.dwz_encode_common.specs.SharedLaws.{HasTexts}
use Rattle.dwz_encode_common.proofs.EntryPlaces.{meant}
use Rattle.dwz_encode_common.proofs.SharedEntries.{each_now, held_own, space_before, space_now, space_there, stands, text_is}

abbrev NotPooled : TextAt → Type 0
NotPooled t = IsPooled t → ⊥

-- ---- texts that were read

module _ (around : Around ℕ) (raw : List RawUnit) where
  own_each : (base : Option ℕ) (attrs : List RawAttr) → Each NotPooled (map (own_text around.sources.offsets base) attrs)
  own_each base [] = tt
  own_each base (a ∷ attrs) = (λ h. h, own_each base attrs)

  rows_each : (rows : List EntryRow) → Each NotPooled (flat_map (row_texts around raw) rows)
  rows_each [] = tt
  rows_each (r ∷ rows) =
      subst (Each NotPooled) (sym (flat_map-cons (row_texts around raw) r rows))
      (each_append NotPooled (row_texts around raw r) (flat_map (row_texts around raw) rows)
      (own_each (slots_base_at around raw r.unit) (filter (λ a. is_pair_placed a.pair) r.entry.attrs)) (rows_each rows))

  named : (base : Option ℕ) (o : Option RawAttr) → NotPooled (named_text around.sources.offsets base o)
  named base None = λ h. h
  named base (Some a) = λ h. h

index_each : (ts : List TextAt) → Each NotPooled ts → (m : ℕ) → NotPooled (slice_index_or ts m no_text)
index_each [] h m = λ p. p
index_each (t ∷ ts) h zero = h.0
index_each (t ∷ ts) h (suc m) = index_each ts h.1 m

-- ---- once the common file has texts

placed : (shares : Bool) (T : List (List ℕ)) (text : List ℕ) (own : TextAt) → NotPooled own → NotPooled (placed_text false shares T text own)
placed true T text own none = go (has_text T text) where
  go : (b : Bool) → NotPooled (cond b (Shared (text_place T text)) own)
  go true = λ h. h
  go false = none
placed false T text own none = none

name_placed : (shares : Bool) (T said : List (List ℕ)) (own : TextAt) → NotPooled own → NotPooled (name_place false shares T said own)
name_placed shares T [] own none = none
name_placed shares T (text ∷ said) own none = placed shares T text own none

module _ {beside : Beside} (f : RunFacts beside) (t : TextsAt) (sharing : List Bool) (before k : EntryTable) (facts : AreFacts f) (listed : AreListed f t before)
    (stand : StandAsRead f t) (has : HasTexts f sharing before k) (n : ℕ) (bytes : List ℕ) (x : File) (index : Index)
    (h : HasFile f n bytes x index) where
  abbrev raw : List RawUnit
  raw = raw_units x.units

  abbrev around : Around ℕ
  around = around_of bytes raw

  text_own : (m : ℕ) → NotPooled (text_at before n m)
  text_own m =
      let at = has_rows f f.files f.indexes (starts_from 0 f.indexes) t.files before.files.items listed.rows n x index h.file h.index_is in
      let is : text_at before n m ≡ slice_index_or (flat_map (row_texts around raw) (rows_of raw)) m no_text =
      ap (λ (o : Option FileRows). option_map_or (λ (g : FileRows). slice_index_or g.texts.items m no_text) o no_text) at.row_is
      ∙ ap (λ (l : List TextAt). slice_index_or l m no_text) (at.listed.texts_are ∙ stand.files n bytes x index at.own h at.own_is) in
      subst NotPooled (sym is) (index_each (flat_map (row_texts around raw) (rows_of raw)) (rows_each around raw (rows_of raw)) m)

  name_own : (space i : ℕ) (r : EntryRow) (d : Node ℕ) → slice_get (space_entries 0 f.indexes) space ≡ Some (entry_row n i)
      → IsRead (file_read f n bytes x) i r d → NotPooled (space_at before space).text
  name_own space i r d entry read =
      let own = stand.spaces.each space n i h.read.limits bytes raw h.read.read.doc r entry h.read.there read.found in
      let low = got_below (space_entries 0 f.indexes) space (entry_row n i) entry in
      let many = listed.many_commons in
      let common = got_there t.commons space (omega (arith, low, many)) in
      let row : SpaceRow = record { row = entry_row n i; text = row_name around raw r; common = common.0 } in
      let at : space_at before space ≡ row =
      get_or_from_slice_get before.spaces.items space row no_space
      (ap (λ (l : List SpaceRow). slice_get l space) listed.spaces
      ∙ space_row (space_entries 0 f.indexes) t.spaces t.commons space (entry_row n i) (row_name around raw r) common.0 entry own common.1) in
      subst (λ (w : SpaceRow). NotPooled w.text) (sym at)
      (named around raw (slots_base_at around raw r.unit) (first_raw 0x03 r.entry.attrs))

pub not_pooled : NotPooledLaw
not_pooled beside f t sharing before k facts listed stand has n bytes x index h i r d read own =
    each_now f t sharing before k facts listed has n bytes x index h i r d read (λ j a. IsPooled (text_at k n j) → ⊥) (λ j a e. (
    let from = (stands f t sharing before k facts listed has n bytes x index h i r d read).from in
    let place = text_at before n (from + j) in
    let is : text_at k n (from + j) ≡ placed_text false (shares_in sharing n) (texts_by (common f) (run f)) (meant a) place =
    text_is f t sharing before k facts listed has n bytes x index h i r d read j a e
    ∙ ap (λ (b : Bool). placed_text b (shares_in sharing n) (texts_by (common f) (run f)) (meant a) place) own in
    subst NotPooled (sym is)
    (placed (shares_in sharing n) (texts_by (common f) (run f)) (meant a) place (text_own f t sharing before k facts listed stand has n bytes x index h (from + j)))))

pub name_not_pooled : NameNotPooledLaw
name_not_pooled beside f t sharing before k facts listed stand has n bytes x index h holder other space i r d text found read is =
    let s = space_there f t sharing before k facts listed has n bytes x index h space i r d text found read is in
    let said = text_said (name_attr (name_of text d)) in
    let now : text_held holder (space_at k space) ≡ name_place false (shares_in sharing n) (texts_by (common f) (run f)) said s.space.text =
    held_own holder other (space_at k space)
    ∙ ap (λ (w : SpaceRow). w.text) (space_now f t sharing before k facts listed has n bytes x index h space i r d text found read is) in
    let none : NotPooled s.space.text =
    subst (λ (w : SpaceRow). NotPooled w.text) (space_before f t sharing before k facts listed has n bytes x index h space i r d text found read is)
    (name_own f t sharing before k facts listed stand has n bytes x index h space i r d found read) in
    subst NotPooled (sym now) (name_placed (shares_in sharing n) (texts_by (common f) (run f)) said s.space.text none)

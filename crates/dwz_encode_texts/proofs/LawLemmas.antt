-- Texts and names of files that share none with the common file stand where they were read.
use Rattle.std.proofs.Common.{◌≡◌, ℕ, ◌+◌, List, map, Option, Some, None, slice_get, refl, sym, ap, subst, ◌∙◌, arith}
use Rattle.std.specs.Option.{option_and_then, option_map_or}
use Rattle.std.specs.Prelude.{slice_index, slice_index_or}
use Rattle.std.proofs.lemmas.Option.{get_or_from_slice_get}
use Rattle.dwz_def_reading.specs.Spelling.{reach}
use Rattle.dwz_def_reading.specs.Entries.{RawAttr}
use Rattle.dwz_def_reading.specs.Units.{RawUnit}
use Rattle.dwz_def_reading.proofs.ListFacts.{got_below, got_map, got_there, same_got}
use Rattle.dwz_def_reading.specs.Documents.{Attr, DwUnit, Node, Text, node_map, only}
use Rattle.dwz_def_reading.specs.Files.{around_of, sources_of}
use Rattle.dwz_def_reading.specs.Meanings.{Around, alone, scope_of}
use Rattle.dwz_def_reading.specs.Classes.{class_of}
use Rattle.dwz_def_tops.specs.Seen.{IsPartial}
use Rattle.dwz_def_tops.specs.Spaces.{space_text}
use Rattle.dwz_def_tops.specs.Spots.{EntryName, name_by, name_of}
use Rattle.dwz_graph.proofs.TreeLemmas.{node_attrs}
use Rattle.dwz_unit.specs.Rows.{EntryRow, rows_of, units_of as raw_units}
use Rattle.dwz_graph.specs.declared.file.File.{File}
use Rattle.dwz_graph.specs.Index.{Index}
use Rattle.dwz_def_encoding.specs.Bases.{Bases}
use Rattle.dwz_def_encoding.specs.Placing.{UnitForms}
use Rattle.dwz_def_readback.specs.Files.{name_after}
use Rattle.dwz_graph.specs.EntryCounts.{starts_from}
use Rattle.dwz_layout.specs.declared.known.FileRows.{FileRows}
use Rattle.dwz_layout.specs.declared.known.ValueCounts.{ValueCounts}
use Rattle.dwz_layout.specs.declared.known.EntryTable.{EntryTable}
use Rattle.dwz_layout.specs.declared.known.SpaceRow.{SpaceRow}
use Rattle.dwz_layout.specs.declared.known.TextAt.{TextAt}
use Rattle.dwz_layout.specs.declared.known.TextAt.TheVariants.{Own}
use Rattle.dwz_layout.specs.Known.{no_firsts, no_space, no_text, space_at, text_at}
use Rattle.dwz_law_layout.specs.Knows.{EachFrom, IsRead, IsText, firsts_at, name_attr, texts_in}
use Rattle.dwz_law_layout.proofs.FormWays.{is_read}
use Rattle.dwz_law_layout.specs.Beside.{Beside}
use Rattle.dwz_law_layout.specs.Facts.{AreFacts, HasFile, RunFacts, file_read, run}
use Rattle.dwz_law_layout.specs.Listed.{AreListed, TextsAt, entry_row, firsts_from, none_before, space_entries}
use Rattle.dwz_encode_texts.specs.Texts.{file_texts, row_texts, slots_base, slots_base_at, str_offset}
use Rattle.dwz_encode_texts.specs.Files.{texts_in_file}
use Rattle.dwz_encode_texts.specs.Names.{HaveNames, named_text, row_name}
use Rattle.dwz_encode_texts.specs.TextLaws.{ComesFromScope, StandAsRead, unshared_forms}
use Rattle.dwz_encode_texts.proofs.EntryTexts.{attrs_are}
use Rattle.dwz_encode_texts.proofs.FileTexts.{has_before, has_rows, space_row}
use Rattle.dwz_encode_texts.proofs.FormTexts.{text_stands}
use Rattle.dwz_encode_texts.proofs.SpaceNames.{has_stored_name}

-- what is made of files
pub stand_law : {beside : Beside} (f : RunFacts beside) (t : TextsAt) → t.files ≡ map texts_in_file f.files → HaveNames f.contents f.indexes t.spaces → StandAsRead f t
stand_law f t files names = record {
  files = λ n bytes x index texts has own. (
      let raw = raw_units x.units in
      let there : slice_get t.files n ≡ Some (texts_in_file x) = ap (λ (w : List (List TextAt)). slice_get w n) files ∙ got_map texts_in_file f.files n x has.file in
      same_got t.files n texts (texts_in_file x) own there ∙ (λ i. file_texts (alone (has.read.read.sections i) raw) raw));
  spaces = names;
}

module _ {beside : Beside} (f : RunFacts beside) (t : TextsAt) (k : EntryTable) (facts : AreFacts f) (listed : AreListed f t k) (stand : StandAsRead f t)
    (n : ℕ) (bytes : List ℕ) (x : File) (index : Index) (has : HasFile f n bytes x index) (keys : List EntryName) (u : DwUnit EntryName) where
  abbrev ft : UnitForms EntryName
  ft = unshared_forms f n keys u

  abbrev raw : List RawUnit
  raw = raw_units x.units

  abbrev around : Around ℕ
  around = around_of bytes raw

  offsets_are : ft.offsets ≡ around.sources.offsets
  offsets_are = ap (λ (b : List ℕ). (sources_of b).offsets) (facts.stored n bytes x index has).0

  module _ (i : ℕ) (r : EntryRow) (d : Node ℕ) (read : IsRead (file_read f n bytes x) i r d) (comes : ComesFromScope f u (scope_of around read.unit)) where
    abbrev base : Option ℕ
    base = slots_base_at around raw r.unit

    base_is : slots_base around read.unit ≡ base
    base_is = ap (option_and_then (slots_base around)) (sym read.is_unit)

    slots : IsPartial u.kind → ft.origin_bases.slots ≡ base
    slots p = ap (λ (b : Bases). b.slots) (comes p) ∙ base_is

    pub texts_law : EachFrom (λ j a. IsText ft None a (text_at k n j)) (firsts_at k (file_read f n bytes x) i).text (texts_in (node_map (name_after (run f) n) d).attrs)
    texts_law =
        let at = has_rows f f.files f.indexes (starts_from 0 f.indexes) t.files k.files.items listed.rows n x index has.file has.index_is in
        let texts_are = stand.files n bytes x index at.own has at.own_is in
        let b = has_before around raw (rows_of raw) none_before i r read.found in
        let count = b.count in
        let first : (firsts_at k (file_read f n bytes x) i).text ≡ b.from =
        ap (λ (o : Option FileRows). (option_map_or (λ (g : FileRows). slice_index_or g.firsts.items i no_firsts) o no_firsts).text) at.row_is
        ∙ ap (λ (w : ValueCounts). w.text) (get_or_from_slice_get at.row.firsts.items i (firsts_from (slice_index x.resolved.starts.items i) b.b) no_firsts (at.listed.firsts i b.b b.is))
        ∙ (let e : b.b.texts ≡ b.from = omega arith in e) in
        let there : (j : ℕ) (w : TextAt) → slice_get (row_texts around raw r) j ≡ Some w → text_at k n (b.from + j) ≡ w = λ j w h. (
        ap (λ (o : Option FileRows). option_map_or (λ (g : FileRows). slice_index_or g.texts.items (b.from + j) no_text) o no_text) at.row_is
        ∙ get_or_from_slice_get at.row.texts.items (b.from + j) w no_text (ap (λ (l : List TextAt). slice_get l (b.from + j)) (at.listed.texts_are ∙ texts_are) ∙ b.stand j w h)) in
        let s = scope_of around read.unit in
        subst (λ (m : ℕ). EachFrom (λ j a. IsText ft None a (text_at k n j)) m (texts_in (node_map (name_after (run f) n) d).attrs)) (sym first)
        (attrs_are around.sources.offsets base ft refl offsets_are u.kind refl slots k n (name_after (run f) n) s r.entry.attrs d.attrs b.from (node_attrs s r.entry d read.means).0 there)

    pub names_law : (space : ℕ) (text : List ℕ) → slice_get (space_entries 0 f.indexes) space ≡ Some (entry_row n i) → space_text d ≡ Some text
        → IsText ft None (name_attr (name_of text d)) (space_at k space).text
    names_law space text entry is =
        let name = has_stored_name (scope_of around read.unit) r.entry d text read.means is in
        let own = stand.spaces.each space n i has.read.limits bytes raw has.read.read.doc r entry has.read.there read.found in
        let low = got_below (space_entries 0 f.indexes) space (entry_row n i) entry in
        let many = listed.many_commons in
        let common = got_there t.commons space (omega (arith, low, many)) in
        let at : space_at k space ≡ record { row = entry_row n i; text = row_name around raw r; common = common.0 } =
        get_or_from_slice_get k.spaces.items space (record { row = entry_row n i; text = row_name around raw r; common = common.0 }) no_space
        (ap (λ (l : List SpaceRow). slice_get l space) listed.spaces
        ∙ space_row (space_entries 0 f.indexes) t.spaces t.commons space (entry_row n i) (row_name around raw r) common.0 entry own common.1) in
        let a : Attr EntryName = record { name = 0x03; form = name.b.form; raw = name.b.raw; value = only (Text text) } in
        let attr_is : name_attr (name_of text d) ≡ a = ap (λ (o : Option (Attr ℕ)). name_attr (name_by text o)) name.named in
        let text_is : (space_at k space).text ≡ Own (str_offset (class_of a.form) around.sources.offsets base (reach a.raw)) =
        ap (λ (w : SpaceRow). w.text) at
        ∙ ap (λ (o : Option RawAttr). named_text around.sources.offsets base o) name.stored.first
        ∙ (λ j. Own (str_offset (class_of (sym name.stored.form j)) around.sources.offsets base (reach (sym name.stored.number j)))) in
        let good = text_stands ft refl around.sources.offsets offsets_are base u.kind refl slots a (ap (λ (c : ℕ). is_read (class_of c)) name.stored.form ∙ name.stored.read) (λ e. cc) in
        subst (λ (w : TextAt). IsText ft None (name_attr (name_of text d)) w) (sym text_is)
        (subst (λ (b : Attr EntryName). IsText ft None b (Own (str_offset (class_of a.form) around.sources.offsets base (reach a.raw)))) (sym attr_is) good)

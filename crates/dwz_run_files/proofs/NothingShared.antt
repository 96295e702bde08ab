-- Where nothing is in the common file, no text is shared: all texts stand where they were read, and that is where the definitions say.
use Rattle.std.proofs.Common.{[], ◌+◌, ◌∙◌, ◌∷◌, ◌≡◌, Bool, List, None, Option, Some, ℕ, ap, arith, false, map, refl, slice_get, subst, suc, sym, true, zero}
use Rattle.std.specs.List.{filter, flat_map}
use Rattle.std.specs.Option.{option_map_or}
use Rattle.std.specs.Prelude.{slice_index_or}
use Rattle.std.proofs.lemmas.Option.{get_or_from_slice_get}
use Rattle.dwz_def_reading.specs.Entries.{RawAttr}
use Rattle.dwz_def_reading.specs.Units.{RawUnit}
use Rattle.dwz_def_reading.proofs.ListFacts.{got_below, got_there}
use Rattle.dwz_def_reading.specs.Documents.{DwUnit, Node, node_map}
use Rattle.dwz_def_reading.specs.Files.{around_of}
use Rattle.dwz_def_reading.specs.Meanings.{Around, first_raw}
use Rattle.dwz_def_reading.specs.Lists.{Each}
use Rattle.dwz_def_tops.proofs.Members.{each_append}
use Rattle.dwz_def_tops.specs.Spots.{EntryName}
use Rattle.dwz_def_images.specs.Units.{common_units, out_units}
use Rattle.dwz_def_encoding.specs.Placing.{UnitForms, texts_of, units_with}
use Rattle.dwz_def_readback.specs.Files.{imports_common, shared_if}
use Rattle.dwz_graph.specs.declared.file.File.{File}
use Rattle.dwz_graph.specs.Index.{Index}
use Rattle.dwz_unit.specs.Rows.{EntryRow, rows_of, units_of as raw_units}
use Rattle.dwz_layout_numbers.specs.Befores.{is_pair_placed}
use Rattle.dwz_graph.specs.EntryCounts.{starts_from}
use Rattle.dwz_layout_order.specs.declared.orders.Settled.{Settled}
use Rattle.dwz_layout_order.specs.Ordered.{AreOrders}
use Rattle.dwz_layout.specs.declared.known.FileRows.{FileRows}
use Rattle.dwz_layout.specs.declared.known.EntryTable.{EntryTable}
use Rattle.dwz_layout.specs.declared.known.SpaceRow.{SpaceRow}
use Rattle.dwz_layout.specs.declared.known.TextAt.{TextAt}
use Rattle.dwz_layout.specs.declared.order.UnitItems.{UnitItems}
use Rattle.dwz_layout.specs.Known.{no_space, no_text, space_at, text_at}
use Rattle.dwz_law_layout.specs.Knows.{EachFrom, IsRead, firsts_at, texts_in}
use Rattle.dwz_law_layout.specs.Beside.{Alone, Beside}
use Rattle.dwz_law_layout.specs.Facts.{HasFile, RunFacts, file_read, files_written, move, run, units}
use Rattle.dwz_law_layout.specs.Laid.{FilesTexts, TextsKnown}
use Rattle.dwz_law_layout.specs.Listed.{AreListed, TextsAt, entry_row, space_entries}
use Rattle.dwz_law_layout.specs.Unfitted.{KnowCommon, KnowTexts, KnowsTextsOf, file_unit_forms}
use Rattle.dwz_law_layout.proofs.FilesKnown.{none_known}
use Rattle.dwz_law_layout.proofs.OrderOfRun.{run_few}
use Rattle.dwz_encode_texts.specs.Names.{named_text, row_name}
use Rattle.dwz_encode_texts.specs.Texts.{file_texts, own_text, row_texts, slots_base_at}
use Rattle.dwz_encode_texts.specs.TextLaws.{StandAsRead, unshared}
use Rattle.dwz_encode_texts.proofs.FileTexts.{has_rows, space_row}
use Rattle.dwz_run_files.specs.declared.common.WholeLists.{WholeLists}
use Rattle.dwz_run_files.specs.Common.{AreKnown, HasTexts, AreWhole}
use Rattle.dwz_run_files.specs.Prepared.{ArePrepared}
use Rattle.dwz_run_files.specs.Stood.{FilesUnshared, KnowUnshared}
use Rattle.dwz_run_files.specs.Whole.{EachText, IsNotPooled, OwnsNames, PoolsUnit, StandWhole}
use Rattle.dwz_run_files.proofs.CommonThere.{none_there}
use Rattle.dwz_run_files.proofs.FilesTexts.{stood}

-- ---- no text is shared

shared_none : (b : Bool) → shared_if b [] ≡ []
shared_none true = refl
shared_none false = refl

module _ (f : RunFacts Alone) (none : common_units (move f) ≡ []) where
  -- so forms are chosen as if none could be
  fit_same : (n : ℕ) (u : DwUnit EntryName) → unshared (file_unit_forms f n u) ≡ file_unit_forms f n u
  unfolding units_with
  fit_same n u =
      let imports = imports_common (move f) (units f) n in
      let nothing : [] ≡ (file_unit_forms f n u).shared =
      sym (shared_none imports) ∙ ap (λ (us : List (DwUnit EntryName)). shared_if imports (texts_of [] us)) (sym none) in
      let ft = file_unit_forms f n u in
      (λ i. record ft { file = record ft.file { forms = record ft.file.forms { shared = nothing i } } })

  units_told : (k : EntryTable) (n : ℕ) (order : List UnitItems) (us : List (DwUnit EntryName)) → KnowUnshared f k n order us
      → KnowTexts f k None n order us
  units_told k n [] [] known = tt
  units_told k n [] (u ∷ us) known = absurd known
  units_told k n (o ∷ order) [] known = absurd known
  units_told k n (o ∷ order) (u ∷ us) known =
      (subst (λ (ft : UnitForms EntryName). KnowsTextsOf f k ft None n o) (fit_same n u) known.0, units_told k n order us known.1)

  files_told : (k : EntryTable) (files : List ℕ) (orders : List (List UnitItems)) → FilesUnshared f k files orders
      → FilesTexts f k (λ n. None) files orders
  files_told k [] [] known = tt
  files_told k [] (order ∷ orders) known = absurd known
  files_told k (n ∷ files) [] known = absurd known
  files_told k (n ∷ files) (order ∷ orders) known =
      (units_told k n order (out_units (move f) (units f) n) known.0, files_told k files orders known.2)

-- ---- each text stands in the file that it was read in

each_or : {X : Type 0} (P : X → Type 0) (xs : List X) (j : ℕ) (d : X) → Each P xs → P d → P (slice_index_or xs j d)
each_or P [] j d all other = other
each_or P (x ∷ xs) zero d all other = all.0
each_or P (x ∷ xs) (suc j) d all other = each_or P xs j d all.1 other

each_of : {X : Type 0} (P : X → Type 0) (xs : List X) → ((x : X) → P x) → Each P xs
each_of P [] go = tt
each_of P (x ∷ xs) go = (go x, each_of P xs go)

each_from : {X : Type 0} (P : ℕ → X → Type 0) (n : ℕ) (xs : List X) → ((j : ℕ) (x : X) → P j x) → EachFrom P n xs
each_from P n [] go = tt
each_from P n (x ∷ xs) go = (go n x, each_from P (n + 1) xs go)

attrs_own : (offsets : List ℕ) (base : Option ℕ) (attrs : List RawAttr) → Each IsNotPooled (map (own_text offsets base) attrs)
attrs_own offsets base [] = tt
attrs_own offsets base (a ∷ attrs) = (λ is. is, attrs_own offsets base attrs)

rows_own : (around : Around ℕ) (raw : List RawUnit) (rows : List EntryRow) → Each IsNotPooled (flat_map (row_texts around raw) rows)
rows_own around raw [] = tt
rows_own around raw (r ∷ rows) =
    each_append IsNotPooled (row_texts around raw r) (flat_map (row_texts around raw) rows)
    (attrs_own around.sources.offsets (slots_base_at around raw r.unit) (filter (λ a. is_pair_placed a.pair) r.entry.attrs))
    (rows_own around raw rows)

name_own : (offsets : List ℕ) (base : Option ℕ) (o : Option RawAttr) → IsNotPooled (named_text offsets base o)
name_own offsets base None is = is
name_own offsets base (Some a) is = is

module _ {beside : Beside} (f : RunFacts beside) (t : TextsAt) (k : EntryTable) (listed : AreListed f t k) (stand : StandAsRead f t) (n : ℕ) where
  module _ (bytes : List ℕ) (x : File) (index : Index) (has : HasFile f n bytes x index) where
    abbrev raw : List RawUnit
    raw = raw_units x.units

    abbrev around : Around ℕ
    around = around_of bytes raw

    text_own : (j : ℕ) → IsNotPooled (text_at k n j)
    text_own j =
        let at = has_rows f f.files f.indexes (starts_from 0 f.indexes) t.files k.files.items listed.rows n x index has.file has.index_is in
        let texts_are = stand.files n bytes x index at.own has at.own_is in
        let here : text_at k n j ≡ slice_index_or (file_texts around raw) j no_text =
        ap (λ (o : Option FileRows). option_map_or (λ (g : FileRows). slice_index_or g.texts.items j no_text) o no_text) at.row_is
        ∙ ap (λ (l : List TextAt). slice_index_or l j no_text) (at.listed.texts_are ∙ texts_are) in
        subst IsNotPooled (sym here)
        (each_or IsNotPooled (file_texts around raw) j no_text (rows_own around raw (rows_of raw)) (λ is. is))

    space_own : (space i : ℕ) (r : EntryRow) (d : Node ℕ) → slice_get (space_entries 0 f.indexes) space ≡ Some (entry_row n i)
        → IsRead (file_read f n bytes x) i r d → IsNotPooled (space_at k space).text
    space_own space i r d entry read =
        let own = stand.spaces.each space n i has.read.limits bytes raw has.read.read.doc r entry has.read.there read.found in
        let low = got_below (space_entries 0 f.indexes) space (entry_row n i) entry in
        let many = listed.many_commons in
        let common = got_there t.commons space (omega (arith, low, many)) in
        let at : space_at k space ≡ record { row = entry_row n i; text = row_name around raw r; common = common.0 } =
        get_or_from_slice_get k.spaces.items space (record { row = entry_row n i; text = row_name around raw r; common = common.0 }) no_space
        (ap (λ (l : List SpaceRow). slice_get l space) listed.spaces
        ∙ space_row (space_entries 0 f.indexes) t.spaces t.commons space (entry_row n i) (row_name around raw r) common.0 entry own common.1) in
        subst (λ (w : SpaceRow). IsNotPooled w.text) (sym at)
        (name_own around.sources.offsets (slots_base_at around raw r.unit) (first_raw 0x03 r.entry.attrs))

  texts_own : (o : UnitItems) → EachText IsNotPooled f k o n
  texts_own o bytes x index has i r d read writes =
      each_from (λ j a. IsNotPooled (text_at k n j)) (firsts_at k (file_read f n bytes x) i).text
      (texts_in (node_map (file_read f n bytes x).after d).attrs)
      (λ j a. text_own bytes x index has j)

  pub names_own : OwnsNames f k n
  names_own bytes x index has space i r d entry read = space_own bytes x index has space i r d entry read

-- ---- all of it

-- no unit of the common file is written
no_pool : (f : RunFacts Alone) (k : EntryTable) (common : List UnitItems) → KnowCommon f k common [] → Each (PoolsUnit f k) common
no_pool f k [] known = tt
no_pool f k (o ∷ common) known = absurd known

module _ (f : RunFacts Alone) (s : Settled) (t : TextsAt) (k : EntryTable) (orders : List (List UnitItems)) (p : ArePrepared f s t k orders)
    (as_read : StandAsRead f t) (none : common_units (move f) ≡ []) where
  common_known : (common : List UnitItems) (others : List (List UnitItems)) → orders ≡ common ∷ others
      → KnowCommon f k common (common_units (move f))
  common_known common others are =
      none_known _ f t k s p.facts p.listed p.settled none common others
      (subst (λ (w : List (List UnitItems)). AreOrders f.contents f.indexes s w) are p.ordered)

  whole : StandWhole f k orders
  whole =
      let common = p.ordered.common in
      let others = p.ordered.others in
      let are = p.ordered.orders_are in
      record {
        known = subst (TextsKnown f k (λ n. None)) (sym are) (
          common_known common others are,
          files_told f none k (files_written f) others (stood Alone f s t k orders p as_read common others are),
        );
        pooled = λ common others are.
            no_pool f k common (subst (λ (us : List (DwUnit EntryName)). KnowCommon f k common us) none (common_known common others are));
        owned = λ n rank first order is.
            each_of (λ o. EachText IsNotPooled f k o n) order (λ o. texts_own f t k p.listed as_read n o);
        names = λ n. names_own f t k p.listed as_read n;
      }

  -- so the lists are those with the texts of the common file, which has none
  pub nothing_shared : (w : WholeLists) → w.known ≡ k → w.common ≡ None → AreWhole f s orders w
  nothing_shared w known common = record {
    known = subst (AreKnown f s orders) (sym known) (record { texts = t; prepared = p; stand = whole; few = run_few _ f none });
    common = subst (HasTexts (run f)) (sym common) (none_there f none);
  }

-- The old units of a file, one by one, among those of all files.
use Rattle.std.proofs.Common.{◌≡◌, ℕ, suc, ◌+◌, Bool, true, false, List, [], ◌∷◌, ◌++◌, ◌==◌, length, map, drop, Some, slice_get, refl, sym, ap, subst, ◌∙◌, arith}
use Rattle.std.proofs.lemmas.Bool.{eq-eqb, eqb-true}
use Rattle.dwz_def_reading.specs.Units.{RawUnit, entry_count}
use Rattle.dwz_def_reading.proofs.ListFacts.{drop_first, get_first, got_map, same_got}
use Rattle.dwz_def_reading.specs.Documents.{DwUnit, unit_map}
use Rattle.dwz_def_reading.specs.Files.{around_of}
use Rattle.dwz_def_reading.specs.Meanings.{IfSo, MeanUnits}
use Rattle.dwz_def_reading.proofs.FileLemmas.{file_agrees}
use Rattle.dwz_def_tops.specs.Lists.{Nth}
use Rattle.dwz_def_reading.specs.Lists.{Each}
use Rattle.dwz_def_tops.specs.Seen.{IsPartial}
use Rattle.dwz_def_tops.specs.Spots.{EntryName, FileUnit, in_file}
use Rattle.dwz_graph.proofs.TopThere.{left_behind}
use Rattle.dwz_graph.specs.declared.file.File.{File}
use Rattle.dwz_graph.specs.Index.{Index}
use Rattle.dwz_graph.proofs.TopNameLemmas.{read_whole}
use Rattle.dwz_graph.proofs.TopLemmas.{get_later}
use Rattle.dwz_unit.specs.Rows.{rows_from, rows_in, rows_of, units_of as raw_units}
use Rattle.dwz_unit.proofs.ShownLemmas.{rows_in-length}
use Rattle.dwz_graph.specs.Across.{IsFileAmong, file_units}
use Rattle.dwz_graph.specs.EntryCounts.{starts_from}
use Rattle.dwz_layout_order.specs.declared.marks.Marks.{Marks}
use Rattle.dwz_layout_order.specs.declared.outline.Next.{Next}
use Rattle.dwz_layout_order.specs.Kept.{AreKept, From, behind_from, behind_unit}
use Rattle.dwz_layout_order.specs.Orders.{First}
use Rattle.dwz_layout_order.specs.Shown.{IsOther}
use Rattle.dwz_layout_order.specs.Sorts.{SortOf}
use Rattle.dwz_law_layout.specs.Old.{EachOld}
use Rattle.dwz_layout.specs.declared.known.EntryTable.{EntryTable}
use Rattle.dwz_layout.specs.declared.order.UnitItems.{UnitItems}
use Rattle.dwz_law_layout.specs.Beside.{Beside}
use Rattle.dwz_law_layout.specs.Facts.{AreFacts, RunFacts, units}
use Rattle.dwz_law_layout.proofs.FileEntries.{IsHere, here}
use Rattle.dwz_law_layout.specs.Roots.{UnitShown, UnitsShownLaw}
use Rattle.dwz_law_layout.proofs.FilesFound.{among_of, nth_at, others}
use Rattle.dwz_law_layout.proofs.UnitTrees.{around, called, raw, unit_shown}

-- these units, the first of which has that number, in step with what is written of them
abbrev EachHere : (ℕ → FileUnit EntryName → UnitItems → Type 0) → ℕ → List (FileUnit EntryName) → List UnitItems → Type 0
EachHere P i [] [] = Unit {0}
EachHere P i (u ∷ units) (o ∷ order) = P i u o × EachHere P (suc i) units order
EachHere P i _ _ = ⊥

-- ---- the units of the file

module _ {beside : Beside} (f : RunFacts beside) (n : ℕ) (bytes : List ℕ) (x : File) (index : Index) (is : IsFileAmong f.contents n bytes x index) (k : EntryTable) (facts : AreFacts f) (o : IsHere f k n x index) where
  abbrev Shown : ℕ → FileUnit EntryName → UnitItems → Type 0
  Shown i u items = UnitShown f n bytes x u.unit items.sort

  each_shown : (marks : Marks) (imports : ℕ → List ℕ) (from : From) (next : Next) (us : List RawUnit) (vs : List (DwUnit ℕ)) (order : List UnitItems) (j first i : ℕ)
      → MeanUnits (around f n bytes x index is) us vs → Each (λ v. IsPartial v.kind → ⊥) vs → drop j (raw f n bytes x index is) ≡ us
      → drop first (rows_of (raw f n bytes x index is)) ≡ rows_from us j first
      → from.file ≡ n → from.start ≡ o.start → from.first ≡ first
      → ((q : ℕ) (v : DwUnit ℕ) → slice_get vs q ≡ Some v → Nth 0 (units f) (i + q) (in_file n (unit_map (called f n bytes x index is) v)))
      → AreKept (raw f n bytes x index is) marks imports from next us order → EachHere Shown i (map (in_file n) (map (unit_map (called f n bytes x index is)) vs)) order
  unfolding rows_from
  each_shown marks imports from next [] [] [] j first i means whole at rows file start begins there kept = tt
  each_shown marks imports from next [] [] (items ∷ order) j first i means whole at rows file start begins there kept = absurd kept
  each_shown marks imports from next [] (v ∷ vs) order j first i means whole at rows file start begins there kept = absurd means
  each_shown marks imports from next (u ∷ us) [] order j first i means whole at rows file start begins there kept = absurd means
  each_shown marks imports from next (u ∷ us) (v ∷ vs) [] j first i means whole at rows file start begins there kept = absurd kept
  each_shown marks imports from next (u ∷ us) (v ∷ vs) (items ∷ order) j first i means whole at rows file start begins there kept =
      let all = raw f n bytes x index is in
      let g = drop_first all j u us at in
      let rest = rows_from us (j + 1) (first + entry_count u) in
      let long = rows_in-length u j first in
      let later = left_behind (rows_of all) first (first + entry_count u) (rows_in u j first) rest rows (ap (λ (w : ℕ). first + w) long) in
      let none : i + 0 ≡ i = omega arith in
      let own = subst (λ (w : ℕ). Nth 0 (units f) w (in_file n (unit_map (called f n bytes x index is) v))) none (there 0 v refl) in
      let sorted : SortOf all n o.start first u items.sort =
      subst (λ (w : ℕ). SortOf all w o.start first u items.sort) file
      (subst (λ (w : ℕ). SortOf all from.file w first u items.sort) start (subst (λ (w : ℕ). SortOf all from.file from.start w u items.sort) begins kept.0.sort)) in (
        unit_shown f n bytes x index is k facts o j first i u v rest items.sort g.0 means.0 whole.0 rows own sorted,
        each_shown marks imports (behind_from from u) (behind_unit u next) us vs order (j + 1) (first + entry_count u) (suc i) means.1 whole.1 g.1 later file start
            (ap (λ (w : ℕ). w + entry_count u) begins)
            (λ q w e. (let far : i + suc q ≡ suc i + q = omega arith in subst (λ (z : ℕ). Nth 0 (units f) z (in_file n (unit_map (called f n bytes x index is) w))) far (there (suc q) w e))) kept.1,
      )

-- ---- among those of all files

module _ (P : ℕ → FileUnit EntryName → UnitItems → Type 0) (file : ℕ) where
  skip_one : (u : FileUnit EntryName) (A B : Type 0) → IsOther file u → B → IfSo (u.file == file) A B
  skip_one u A B other b = by (u.file == file) refl where
    by : (t : Bool) → (u.file == file) ≡ t → IfSo t A B
    by false is = b
    by true is = absurd (other (eqb-true u.file file is))

  take_one : (u : FileUnit EntryName) (A B : Type 0) → u.file ≡ file → A → IfSo (u.file == file) A B
  take_one u A B own a = subst (λ (t : Bool). IfSo t A B) (sym (eq-eqb u.file file own)) a

  skip : (i : ℕ) (before rest : List (FileUnit EntryName)) (order : List UnitItems) → Each (IsOther file) before → EachOld P file (i + length before) rest order → EachOld P file i (before
      ++ rest) order
  skip i [] rest order other h = (let none : i + 0 ≡ i = omega arith in subst (λ (w : ℕ). EachOld P file w rest order) none h)
  skip i (u ∷ before) rest order other h =
      let next : i + suc (length before) ≡ suc i + length before = omega arith in
      skip_one u (First (P i u) (EachOld P file (suc i) (before ++ rest)) order) (EachOld P file (suc i) (before ++ rest) order) other.0
      (skip (suc i) before rest order other.1 (subst (λ (w : ℕ). EachOld P file w rest order) next h))

  none_left : (i : ℕ) (after : List (FileUnit EntryName)) → Each (IsOther file) after → EachOld P file i after []
  none_left i [] other = refl
  none_left i (u ∷ after) other = skip_one u (First (P i u) (EachOld P file (suc i) after) []) (EachOld P file (suc i) after []) other.0 (none_left (suc i) after other.1)

  mine : (i : ℕ) (own : List (DwUnit EntryName)) (after : List (FileUnit EntryName)) (order : List UnitItems) → EachHere P i (map (in_file file) own) order → Each (IsOther file) after
      → EachOld P file i (map (in_file file) own ++ after) order
  mine i [] after [] h other = none_left i after other
  mine i [] after (o ∷ order) h other = absurd h
  mine i (u ∷ own) after [] h other = absurd h
  mine i (u ∷ own) after (o ∷ order) h other =
      let rest = map (in_file file) own ++ after in
      take_one (in_file file u) (P i (in_file file u) o × EachOld P file (suc i) rest order) (EachOld P file (suc i) rest (o ∷ order)) refl (h.0, mine (suc i) own after order h.1 other)

pub units_shown : UnitsShownLaw
units_shown beside f t k facts listed n bytes x index h start at marks imports from next order file begins first kept =
    let is = among_of f facts n bytes x index h in
    let o = here f t k facts listed n x index h.file h.index_is in
    let doc = is.kept.read.doc in
    let front = is.units.front in
    let back = is.units.back in
    let own = file_units index.starts n doc in
    let P : ℕ → FileUnit EntryName → UnitItems → Type 0 = λ i u items. UnitShown f n bytes x u.unit items.sort in
    let means : MeanUnits (around_of bytes (raw_units x.units)) (raw_units x.units) doc.units = (((file_agrees is.kept.limits bytes).ok (raw_units x.units, doc)).0 is.kept.read.means).means in
    let whole = read_whole is.kept.limits bytes (raw_units x.units) doc is.kept.read.means in
    let from_start : from.start ≡ o.start = begins ∙ same_got (starts_from 0 f.indexes) n start o.start at o.start_is in
    let there = λ (q : ℕ) (v : DwUnit ℕ) (e : slice_get doc.units q ≡ Some v).
    (let got = get_later front (own ++ back) q (in_file n (unit_map (called f n bytes x index is) v))
    (get_first own back q (in_file n (unit_map (called f n bytes x index is) v))
    (got_map (in_file n) (map (unit_map (called f n bytes x index is)) doc.units) q (unit_map (called f n bytes x index is) v) (got_map (unit_map (called f n bytes x index is)) doc.units q v e))) in
    nth_at (units f) (length front + q) (in_file n (unit_map (called f n bytes x index is) v)) (ap (λ (w : List (FileUnit EntryName)). slice_get w (length front + q)) is.units.all_are ∙ got)) in
    let each : EachHere P (length front) own order =
    each_shown f n bytes x index is k facts o marks imports from next (raw_units x.units) doc.units order 0 0 (length front) means whole refl refl file from_start first there kept in
    let other = others _ f facts n bytes x index h is in
    let none : length front ≡ 0 + length front = omega arith in
    subst (λ (w : List (FileUnit EntryName)). EachOld P n 0 w order) (sym is.units.all_are)
    (skip P n 0 front (own ++ back) order other.0
    (subst (λ (w : ℕ). EachOld P n w (own ++ back) order) none (mine P n (length front) (map (unit_map (called f n bytes x index is)) doc.units) back order each other.1)))

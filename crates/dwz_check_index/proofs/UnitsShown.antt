-- All units: what is built of them is their index.
use Rattle.std.proofs.Common.{◌≡◌, ℕ, ◌+◌, ◌≤◌, List, [], ◌∷◌, ◌++◌, length, drop, map, Some, slice_get, refl, sym, ap, subst, ◌∙◌, arith}
use Rattle.std.proofs.lemmas.List.{append-nil, append_assoc, length-drop}
use Rattle.dwz_def_reading.specs.Documents.{DwUnit, Node}
use Rattle.dwz_def_reading.specs.Units.{RawUnit, entries_in, entry_count}
use Rattle.dwz_def_reading.specs.Meanings.{Around, MeanUnits, scope_of}
use Rattle.dwz_def_reading.proofs.ListFacts.{drop_first}
use Rattle.dwz_def_cross.specs.Tops.{CrossTop}
use Rattle.dwz_def_check.specs.CrossNames.{cross_names_from, cross_tops, next_whole, unit_tops}
use Rattle.dwz_def_check.specs.CrossNodes.{lone_entries, lone_of}
use Rattle.dwz_def_check.specs.CrossLists.{numbered_units}
use Rattle.dwz_check_index.specs.declared.index.CrossStarts.{CrossStarts}
use Rattle.dwz_check_index.specs.declared.index.UnitStart.{UnitStart}
use Rattle.dwz_check_index.specs.Building.{nothing_yet, whole_behind, with_unit, with_units}
use Rattle.dwz_check_index.specs.Index.{Called, CrossIndex, IsCrossIndex, ListedEntry, listed_units, start_of}
use Rattle.dwz_check_index.proofs.ListShown.{built_to}
use Rattle.dwz_check_index.proofs.Shown.{Built}
use Rattle.dwz_check_index.proofs.UnitBuilding.{unit_starts}
use Rattle.dwz_check_index.proofs.UnitShown.{unit_lone_long, unit_shown, unit_tops_long, unit_units, whole_means}

nothing : {X : Type 0} (i : ℕ) (x : X) → slice_get [] i ≡ Some x → ⊥
nothing i x e = cc

-- a list of which so many are nothing left
all_of : {X : Type 0} (xs : List X) (n : ℕ) → n ≤ length xs → drop n xs ≡ [] → n ≡ length xs
all_of {X} xs n le none = let e = ap (λ (w : List X). length w) none in omega (arith, le, e, length-drop n xs)

module _ (around : Around ℕ) (starts : CrossStarts) (said : List (DwUnit ℕ)) (names : List Called) (entries : List (ListedEntry ℕ)) (tops : List (CrossTop ℕ)) (lone : List (Node ℕ)) where
  abbrev BuiltSo : CrossIndex → ℕ → List Called → List (ListedEntry ℕ) → List (CrossTop ℕ) → List (Node ℕ) → Type 0
  BuiltSo x first ns es ts ls = Built starts said names entries tops lone x first ns es ts ls

  units_shown : (unit whole top first : ℕ) (raw : List RawUnit) (us : List (DwUnit ℕ)) (x : CrossIndex) → MeanUnits around raw us → drop unit said ≡ us → top ≡ starts.top + length x.tops
      → BuiltSo x first (cross_names_from whole top us) (listed_units us) (cross_tops us) (lone_entries us) → BuiltSo (with_units unit whole first raw x) (first + entries_in raw) [] [] [] []
  unfolding cross_names_from listed_units cross_tops lone_entries with_units entries_in
  units_shown unit whole top first [] [] x h at number built = built_to starts said names entries tops lone x first (first + 0) [] [] [] [] (omega arith) built
  units_shown unit whole top first [] (v ∷ us) x h at number built = absurd h
  units_shown unit whole top first (u ∷ raw) [] x h at number built = absurd h
  units_shown unit whole top first (u ∷ raw) (v ∷ us) x h at number built =
      let here = drop_first said unit v us at in
      let more = top + length (unit_tops v.kind v) in
      let y = with_unit unit whole first u x in
      let put = unit_shown starts said names entries tops lone around unit whole top first u v x h.0 (cross_names_from (next_whole v.kind whole) more us) (listed_units us) (cross_tops us) (lone_entries us)
      here.0 number built in
      let same = whole_means (scope_of around u) u.kind v.kind whole h.0.kind in
      let long = unit_tops_long starts said names entries tops lone around unit whole top first u v x h.0 in
      built_to starts said names entries tops lone (with_units (unit + 1) (whole_behind u.kind whole) (first + entry_count u) raw y) (first + entry_count u + entries_in raw)
      (first + (entry_count u + entries_in raw)) [] [] [] [] (omega arith)
      (units_shown (unit + 1) (whole_behind u.kind whole) more (first + entry_count u) raw us y h.1 here.1 (omega (arith, number, long))
      (subst (λ (k : ℕ). BuiltSo y (first + entry_count u) (cross_names_from k more us) (listed_units us) (cross_tops us) (lone_entries us)) (sym same) put))

  -- ---- where units begin

  numbers_shown : (unit whole first : ℕ) (raw : List RawUnit) (us : List (DwUnit ℕ)) (x : CrossIndex) → MeanUnits around raw us → drop unit said ≡ us
      → (with_units unit whole first raw x).units ≡ x.units ++ map start_of (numbered_units (x.starts.top + length x.tops) (x.starts.lone + length x.lone) us)
  unfolding with_units numbered_units
  numbers_shown unit whole first [] [] x h at = sym (append-nil x.units)
  numbers_shown unit whole first [] (v ∷ us) x h at = absurd h
  numbers_shown unit whole first (u ∷ raw) [] x h at = absurd h
  numbers_shown unit whole first (u ∷ raw) (v ∷ us) x h at =
      let here = drop_first said unit v us at in
      let y = with_unit unit whole first u x in
      let top = x.starts.top + length x.tops in
      let root = x.starts.lone + length x.lone in
      let start : UnitStart = record { top = top; lone = root } in
      let tops_more = unit_tops_long starts said names entries tops lone around unit whole top first u v x h.0 in
      let lone_more = unit_lone_long starts said names entries tops lone around unit whole top first u v x h.0 here.0 in
      let kept = unit_starts unit whole first u x in
      let a : y.starts.top + length y.tops ≡ top + length (unit_tops v.kind v) = ap (λ (w : CrossStarts). w.top + length y.tops) kept ∙ (let e : x.starts.top + length y.tops ≡ top + length (unit_tops v.kind v) = omega (arith, tops_more) in e) in
      let b : y.starts.lone + length y.lone ≡ root + length (lone_of v.kind v) = ap (λ (w : CrossStarts). w.lone + length y.lone) kept ∙ (let e : x.starts.lone + length y.lone ≡ root + length (lone_of v.kind v) = omega (arith, lone_more) in e) in
      numbers_shown (unit + 1) (whole_behind u.kind whole) (first + entry_count u) raw us y h.1 here.1
      ∙ (λ j. unit_units starts said names entries tops lone around unit whole top first u v x h.0 j ++ map start_of (numbered_units (a j) (b j) us))
      ∙ append_assoc x.units (start ∷ []) (map start_of (numbered_units (top + length (unit_tops v.kind v)) (root + length (lone_of v.kind v)) us))

-- ---- an index

pub is_index : (around : Around ℕ) (starts : CrossStarts) (raw : List RawUnit) (said : List (DwUnit ℕ)) (x : CrossIndex) → MeanUnits around raw said → x ≡ with_units 0 0 0 raw (nothing_yet starts)
    → IsCrossIndex starts said x
is_index around starts raw said x h e = subst (λ (w : CrossIndex). IsCrossIndex starts said w) (sym e) is where
  names : List Called
  names = cross_names_from 0 starts.top said

  y : CrossIndex
  y = with_units 0 0 0 raw (nothing_yet starts)

  begins : Built starts said names (listed_units said) (cross_tops said) (lone_entries said) (nothing_yet starts) 0 names (listed_units said) (cross_tops said) (lone_entries said)
  begins = record {
    steps = record { len = refl; shown = λ i s name found there. absurd (nothing i s found); names_left = refl; entries_left = refl; few = omega arith };
    tops_so = record { are = λ k s t found there. absurd (nothing k s found); left = refl; few = omega arith };
    lone_so = record { are = λ k s t found there. absurd (nothing k s found); left = refl; few = omega arith };
    starts_are = refl;
  }

  built : Built starts said names (listed_units said) (cross_tops said) (lone_entries said) y (0 + entries_in raw) [] [] [] []
  built = units_shown around starts said names (listed_units said) (cross_tops said) (lone_entries said) 0 0 starts.top 0 raw said (nothing_yet starts) h refl (omega arith) begins

  units : y.units ≡ map start_of (numbered_units starts.top starts.lone said)
  units =
      let a : starts.top + 0 ≡ starts.top = omega arith in
      let b : starts.lone + 0 ≡ starts.lone = omega arith in
      numbers_shown around starts said names (listed_units said) (cross_tops said) (lone_entries said) 0 0 0 raw said (nothing_yet starts) h refl
      ∙ (λ j. map start_of (numbered_units (a j) (b j) said))

  is : IsCrossIndex starts said y
  is = record {
    starts_are = built.starts_are;
    names = record { len = built.steps.len ∙ all_of names (0 + entries_in raw) built.steps.few built.steps.names_left; each = built.steps.shown };
    tops = record { len = all_of (cross_tops said) (length y.tops) built.tops_so.few built.tops_so.left; each = built.tops_so.are };
    lone = record { len = all_of (lone_entries said) (length y.lone) built.lone_so.few built.lone_so.left; each = built.lone_so.are };
    units = units;
  }

-- The references of one more entry stand behind those of the entries before it.
use Rattle.std.proofs.Common.{◌≡◌, ℕ, zero, suc, ◌+◌, ◌-◌, ◌<◌, ◌≤◌, ◌^◌, List, [], ◌∷◌, ◌++◌, length, map, take, drop, get_or, Option, Some, Result, Ok, Err, slice_get, refl, sym, ap, subst, ◌∙◌, inl, inr}
use Rattle.std.proofs.Common.{arith}
use Rattle.std.specs.Prelude.{slice_range}
use Rattle.std.proofs.lemmas.Bool.{cases_lt}
use Rattle.std.proofs.lemmas.List.{append-nil, append_assoc, get_or_append_left, get_or-append-add, length-append, map-append, take_all}
use Rattle.std.proofs.Math.Seq.{drop-append_seam}
use Rattle.dwz_model.specs.declared.fault.Fault.{Fault}
use Rattle.dwz_model.proofs.PartFacts.{range_grown}
use Rattle.dwz_def_reading.specs.Trees.{Entry, End, Forest, Position, behind, first_below}
use Rattle.dwz_def_reading.specs.Entries.{RawEntry, root_position}
use Rattle.dwz_def_reading.specs.Units.{RawUnit, entries_in, entry_count}
use Rattle.dwz_def_reading.specs.Documents.{Node}
use Rattle.dwz_def_reading.specs.Meanings.{Around, scope_of}
use Rattle.dwz_def_reading.specs.Meant.{node_meaning}
use Rattle.dwz_def_reading.specs.Shared.{NamedList}
use Rattle.dwz_graph_resolve.specs.Named.{Found, attrs_refs, entry_named, found, map_ok}
use Rattle.dwz_graph_resolve.specs.Parts.{AreParted, GoesOn, IsParted, KnowLines}
use Rattle.dwz_graph_resolve.specs.Surroundings.{around_in, place_among}
use Rattle.dwz_def_reading.specs.Lists.{Each}
use Rattle.dwz_graph_resolve.specs.declared.parts.Parts.{Parts}
use Rattle.dwz_graph_resolve.specs.declared.state.State.{State}
use Rattle.dwz_graph_resolve.specs.declared.surroundings.Surroundings.{Surroundings}
use Rattle.dwz_graph_resolve.proofs.LineSteps.{no_lines}
use Rattle.dwz_graph_resolve.proofs.NamedLemmas.{node_found, node_lists, node_same}
use Rattle.dwz_model.proofs.Members.{each_append}
use Rattle.dwz_unit.proofs.RowsFound.{take_here}
use Rattle.dwz_unit.proofs.UnitThere.{get_behind, get_front}
use Rattle.dwz_unit.specs.declared.rows.RawUnit.{RawUnit as UnitOfCode}
use Rattle.dwz_unit.specs.Rows.{EntryRow, rows_below, rows_from, rows_in, rows_of, shown_from, shown_units}
use Rattle.dwz_unit.proofs.ShownLemmas.{rows_in-length}

-- ---- parts of a longer list

range_last : (xs ys : List ℕ) (to : ℕ) → to ≡ length xs + length ys → slice_range (xs ++ ys) (length xs) to ≡ ys
range_last xs ys to end = ap (take (to - length xs)) (drop-append_seam xs ys) ∙ take_all (to - length xs) ys (omega (arith, end))

-- what an entry names is what its meaning does
abbrev refs_in : Result Found Fault → List ℕ
refs_in (Ok f) = f.refs
refs_in (Err e) = []

module _ (around : Around ℕ) (raw : List RawUnit) where
  part_named : (row : EntryRow) (u : RawUnit) (d : Node ℕ) (more : List ℕ) (lists : List NamedList) → entry_named (scope_of around u) row.entry ≡ Ok (found (map (place_among around.common raw) more) lists)
      → node_meaning (scope_of around u) row.entry ≡ Ok d → map (place_among around.common raw) more ≡ attrs_refs d.attrs
  part_named row u d more lists named means =
      let s = scope_of around u in
      ap refs_in (sym named ∙ node_same s row.entry ∙ ap (map_ok (node_found (node_lists s row.entry))) means)

  pub parted_none : AreParted around raw 0 [] (0 ∷ [])
  parted_none = record { many = refl; first = refl; last = refl; rise = λ i lt. absurd (omega arith); part = λ i row u d lt there unit means. absurd (omega arith) }

  -- what the k-th entry names
  abbrev pub NamesMore : ℕ → List ℕ → Type 0
  NamesMore k more = (row : EntryRow) (u : RawUnit) → slice_get (rows_of raw) k ≡ Some row → slice_get raw row.unit ≡ Some u
      → (lists : List NamedList) × (entry_named (scope_of around u) row.entry ≡ Ok (found (map (place_among around.common raw) more) lists))

  module _ (k : ℕ) (refs new starts more : List ℕ) (longer : new ≡ refs ++ more) (old : AreParted around raw k refs starts) where
    starts' : List ℕ
    starts' = starts ++ length new ∷ []

    wide : length new ≡ length refs + length more
    wide = ap (λ (w : List ℕ). length w) longer ∙ length-append refs more

    start_before : (i : ℕ) → i ≤ k → get_or starts' i 0 ≡ get_or starts i 0
    unfolding starts'
    start_before i le = let many = old.many in get_or_append_left starts (length new ∷ []) 0 i (omega arith)

    start_last : get_or starts' (k + 1) 0 ≡ length new
    unfolding starts'
    start_last =
        let at : k + 1 ≡ length starts + 0 = let many = old.many in omega arith in
        ap (λ (i : ℕ). get_or starts' i 0) at ∙ get_or-append-add starts (length new ∷ []) 0 0

    rise' : (i : ℕ) → i < k + 1 → (get_or starts' i 0 ≤ get_or starts' (i + 1) 0) × (get_or starts' (i + 1) 0 ≤ length new)
    rise' i lt = elim (cases_lt i k) [
      | inl less ↦ (let r = old.rise i less in let a = start_before i (omega arith) in let b = start_before (i + 1) (omega arith) in let low = r.0 in let high = r.1 in let w =
          wide in (omega arith, omega arith))
      | inr ge ↦ (
          let same : i ≡ k = omega arith in
          let a = ap (λ (j : ℕ). get_or starts' j 0) same ∙ start_before k (omega arith) ∙ old.last in
          let b = ap (λ (j : ℕ). get_or starts' (j + 1) 0) same ∙ start_last in
          let w = wide in (omega arith, omega arith))
    ]

    part' : NamesMore k more → (i : ℕ) (row : EntryRow) (u : RawUnit) (d : Node ℕ) → i < k + 1 → slice_get (rows_of raw) i ≡ Some row → slice_get raw row.unit ≡ Some u
        → node_meaning (scope_of around u) row.entry ≡ Ok d
        → map (place_among around.common raw) (slice_range new (get_or starts' i 0) (get_or starts' (i + 1) 0)) ≡ attrs_refs d.attrs
    part' names i row u d lt there unit means = elim (cases_lt i k) [
      | inl less ↦ (
          let r = old.rise i less in
          (λ j. map (place_among around.common raw) (slice_range (longer j) (start_before i (omega arith) j) (start_before (i + 1) (omega arith) j)))
          ∙ ap (map (place_among around.common raw)) (range_grown refs more (get_or starts i 0) (get_or starts (i + 1) 0) r.0 r.1)
          ∙ old.part i row u d less there unit means)
      | inr ge ↦ (
          let same : i ≡ k = omega arith in
          let from = ap (λ (j : ℕ). get_or starts' j 0) same ∙ start_before k (omega arith) ∙ old.last in
          let to = ap (λ (j : ℕ). get_or starts' (j + 1) 0) same ∙ start_last ∙ wide in
          let n = names row u (ap (slice_get (rows_of raw)) (sym same) ∙ there) unit in
          (λ j. map (place_among around.common raw) (slice_range (longer j) (from j) (to j)))
          ∙ ap (map (place_among around.common raw)) (range_last refs more (length refs + length more) refl)
          ∙ part_named row u d more n.0 n.1 means)
    ]

    pub parted_more : NamesMore k more → AreParted around raw (k + 1) new (starts ++ length new ∷ [])
    unfolding starts'
    parted_more names = record {
      many = let many = old.many in omega (arith, length-append starts (length new ∷ []));
      first = start_before 0 (omega arith) ∙ old.first;
      last = start_last;
      rise = rise';
      part = part' names;
    }

-- ---- the entries of a unit among all

-- the root of the n-th unit is behind the entries of those before it
first_from : (raw : List RawUnit) (before n : ℕ) (x : UnitOfCode) → slice_get (shown_from raw before) n ≡ Some x → x.first ≡ before + entries_in (take n raw)
unfolding shown_from entries_in
first_from [] before n x e = absurd cc
first_from (u ∷ raw) before zero x e = let same : x.first ≡ before = cc in omega (arith, same)
first_from (u ∷ raw) before (suc n) x e = let rest = first_from raw (before + entry_count u) n x e in omega (arith, rest)

pub first_is : (raw : List RawUnit) (n : ℕ) (x : UnitOfCode) → slice_get (shown_units raw) n ≡ Some x → x.first ≡ entries_in (take n raw)
first_is raw n x e = let at = first_from raw 0 n x e in omega arith

entries_both : (xs ys : List RawUnit) → entries_in (xs ++ ys) ≡ entries_in xs + entries_in ys
unfolding entries_in
entries_both [] ys = omega arith
entries_both (x ∷ xs) ys = omega (arith, entries_both xs ys)

pub one_unit_more : (raw : List RawUnit) (n : ℕ) (u : RawUnit) → slice_get raw n ≡ Some u → entries_in (take (n + 1) raw) ≡ entries_in (take n raw) + entry_count u
unfolding entries_in
one_unit_more raw n u is = ap entries_in (take_here raw n u is) ∙ entries_both (take n raw) (u ∷ [])
    ∙ (let e : entries_in (take n raw) + (entry_count u + 0) ≡ entries_in (take n raw) + entry_count u = omega arith in e)

below_units : (f : Forest RawEntry) (unit : ℕ) (p : Position) → Each (λ (row : EntryRow). row.unit ≡ unit) (rows_below f unit p)
unfolding rows_below
below_units End unit p = tt
below_units (Entry e c n) unit p = (
  refl,
  each_append (λ (row : EntryRow). row.unit ≡ unit) (rows_below c unit (first_below p)) (rows_below n unit (behind p c)) (below_units c unit (first_below p))
      (below_units n unit (behind p c)),
)

each_at : {X : Type 0} (P : X → Type 0) (xs : List X) (i : ℕ) (x : X) → Each P xs → slice_get xs i ≡ Some x → P x
each_at P [] i x h e = absurd cc
each_at P (y ∷ xs) zero x h e = let same : y ≡ x = cc in subst P same h.0
each_at P (y ∷ xs) (suc i) x h e = each_at P xs i x h.1 e

unit_from : (raw : List RawUnit) (unit before n : ℕ) (u : RawUnit) (i : ℕ) (row : EntryRow) → slice_get raw n ≡ Some u → entries_in (take n raw) ≤ i → i < entries_in (take n raw) + entry_count u
    → slice_get (rows_from raw unit before) i ≡ Some row → row.unit ≡ unit + n
unfolding rows_from entries_in
unit_from [] unit before n u i row is low high there = absurd cc
unit_from (v ∷ raw) unit before zero u i row is low high there =
    let same : v ≡ u = cc in
    let short : i < length (rows_in v unit before) = omega (arith, rows_in-length v unit before, ap (λ (w : RawUnit). entry_count w) same, high) in
    each_at (λ (r : EntryRow). r.unit ≡ unit) (rows_in v unit before) i row (below_units (Entry v.root v.below End) unit (root_position before))
    (sym (get_front (rows_in v unit before) (rows_from raw (unit + 1) (before + entry_count v)) i short) ∙ there)
    ∙ (let e : unit ≡ unit + 0 = omega arith in e)
unit_from (v ∷ raw) unit before (suc n) u i row is low high there =
    let here = rows_in v unit before in
    let many = rows_in-length v unit before in
    let at : length here + (i - length here) ≡ i = omega (arith, many, low) in
    let next : slice_get (rows_from raw (unit + 1) (before + entry_count v)) (i - length here) ≡ Some row =
    sym (get_behind here (rows_from raw (unit + 1) (before + entry_count v)) (i - length here)) ∙ ap (slice_get (here ++ rows_from raw (unit + 1) (before + entry_count v))) at ∙ there in
    unit_from raw (unit + 1) (before + entry_count v) n u (i - length here) row is (omega (arith, many, low)) (omega (arith, many, low, high)) next
    ∙ (let e : unit + 1 + n ≡ unit + suc n = omega arith in e)

-- an entry that stands among those of the n-th unit is of that unit
pub row_unit : (raw : List RawUnit) (n : ℕ) (u : RawUnit) (i : ℕ) (row : EntryRow) → slice_get raw n ≡ Some u → entries_in (take n raw) ≤ i → i < entries_in (take n raw) + entry_count u
    → slice_get (rows_of raw) i ≡ Some row → row.unit ≡ n
row_unit raw n u i row is low high there = unit_from raw 0 0 n u i row is low high there ∙ (let e : 0 + n ≡ n = omega arith in e)

abbrev entry_of : EntryRow → RawEntry
entry_of row = row.entry

-- what an entry of the n-th unit names, whichever way it is found
pub entry_more : (around : Around ℕ) (raw : List RawUnit) (n : ℕ) (u : RawUnit) (i : ℕ) (row : EntryRow) (more : List ℕ) (lists : List NamedList) → slice_get raw n ≡ Some u
    → entries_in (take n raw) ≤ i → i < entries_in (take n raw) + entry_count u → slice_get (rows_of raw) i ≡ Some row
    → entry_named (scope_of around u) row.entry ≡ Ok (found (map (place_among around.common raw) more) lists) → NamesMore around raw i more
entry_more around raw n u i row more lists is low high there named = λ row' u' there' unit. (
    let rows : Some row ≡ Some row' = sym there ∙ there' in
    let one : row ≡ row' = cc in
    let number = row_unit raw n u i row' is low high there' in
    let units : Some u ≡ Some u' = sym is ∙ ap (slice_get raw) (sym number) ∙ unit in
    let same : u ≡ u' = cc in
    (lists, (λ k. entry_named (scope_of around (sym same k)) (entry_of (sym one k))) ∙ named))

-- ---- put behind those of the entries before

pub goes_on_more : (around : Around ℕ) (raw : List RawUnit) (from k : ℕ) (refs new starts more : List ℕ) → new ≡ refs ++ more → NamesMore around raw k more → GoesOn around raw from k refs starts
    → GoesOn around raw from (k + 1) new (starts ++ length new ∷ [])
goes_on_more around raw from k refs new starts more longer names g = λ before ends parted small.
    let f : ℕ → ℕ = λ j. length before + j in
    let wide : length (before ++ new) ≡ length before + length new = length-append before new in
    let few : length (before ++ refs) < 2 ^ 32 = omega (arith, small, wide, length-append before refs, ap (λ (w : List ℕ). length w) longer, length-append refs more) in
    let longer' : before ++ new ≡ (before ++ refs) ++ more = ap (λ w. before ++ w) longer ∙ sym (append_assoc before refs more) in
    let p = parted_more around raw k (before ++ refs) (before ++ new) (ends ++ map f starts) more longer' (g before ends parted few) names in
    let same : (ends ++ map f starts) ++ length (before ++ new) ∷ [] ≡ ends ++ map f (starts ++ length new ∷ []) =
    ap (λ (n : ℕ). (ends ++ map f starts) ++ n ∷ []) wide ∙ append_assoc ends (map f starts) (f (length new) ∷ []) ∙ ap (λ w. ends ++ w) (sym (map-append f starts (length new ∷ []))) in
    subst (λ (w : List ℕ). AreParted around raw (k + 1) (before ++ new) w) same p

goes_on_none : (around : Around ℕ) (raw : List RawUnit) (from : ℕ) → GoesOn around raw from from [] (0 ∷ [])
goes_on_none around raw from = λ before ends parted small.
    let last : length before ≡ length before + 0 = omega arith in
    subst (λ (w : List ℕ). AreParted around raw from w (ends ++ (length before + 0) ∷ [])) (sym (append-nil before))
    (subst (λ (n : ℕ). AreParted around raw from before (ends ++ n ∷ [])) last parted)

-- no entry and no unit
pub none_parted : (s : Surroundings) (raw : List RawUnit) (first : ℕ) (st : State) (parts : Parts) → st.refs.items ≡ [] → parts.starts.items ≡ 0 ∷ [] → parts.lines.items ≡ []
    → IsParted s raw first first st parts
none_parted s raw first st parts refs starts lines =
    let a = around_in s raw in
    let from = entries_in (take first raw) in
    let none : 0 ≡ first - first = omega arith in
    record {
      starts = subst (λ (w : List ℕ). GoesOn a raw from from w parts.starts.items) (sym refs) (subst (λ (w : List ℕ). GoesOn a raw from from [] w) (sym starts) (goes_on_none a raw from));
      lines = subst (λ (w : List (Option ℕ)). KnowLines a (drop first raw) (first - first) st.files w) (sym lines)
          (subst (λ (n : ℕ). KnowLines a (drop first raw) n st.files []) none (no_lines a (drop first raw) st.files));
    }

-- those of all entries
pub all_parted : (around : Around ℕ) (raw : List RawUnit) (refs starts : List ℕ) → length refs < 2 ^ 32 → GoesOn around raw 0 (entries_in raw) refs starts
    → AreParted around raw (entries_in raw) refs starts
all_parted around raw refs starts small g = subst (λ (w : List ℕ). AreParted around raw (entries_in raw) refs w) (raised_none starts) (g [] [] (parted_none around raw) small) where
  raised_none : (xs : List ℕ) → map (λ k. 0 + k) xs ≡ xs
  raised_none [] = refl
  raised_none (x ∷ xs) = let e : 0 + x ≡ x = omega arith in (λ i. e i ∷ raised_none xs i)

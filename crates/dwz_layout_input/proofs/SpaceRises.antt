-- Spaces stand in order of entry, and each behind the one that it stands in.
use Rattle.std.proofs.Common.{◌≡◌, ℕ, zero, suc, ◌+◌, ◌≤◌, Bool, true, false, List, [], ◌∷◌, ◌++◌, length, map, Some, slice_get, refl, ap, subst, arith}
use Rattle.dwz_def_reading.specs.Trees.{End, Entry, size}
use Rattle.dwz_def_reading.specs.Documents.{DwUnit, Entries, Node}
use Rattle.dwz_graph.specs.declared.index.SpaceEntry.{SpaceEntry}
use Rattle.dwz_graph.specs.declared.index.Starts.{Starts}
use Rattle.dwz_graph.specs.Steps.{Below, all_spaces, below_root, is_space, space_entries, space_entry, spaces_among, spaces_by, spaces_of_list, starts_behind}
use Rattle.dwz_graph.proofs.AmongLemmas.{spaces_many}
use Rattle.dwz_layout_order.proofs.FileChains.{entries_many}

-- ---- what stands in what: each outer number is at most the space's own

abbrev pub OutersLow : ℕ → List SpaceEntry → Type 0
OutersLow k [] = Unit {0}
OutersLow k (x ∷ spaces) = (x.outer ≤ k) × OutersLow (suc k) spaces

pub low_append : (k n : ℕ) (xs ys : List SpaceEntry) → length xs ≡ n → OutersLow k xs → OutersLow (k + n) ys → OutersLow k (xs ++ ys)
low_append k n [] ys long h more = let e : k + n ≡ k = omega arith in subst (λ (w : ℕ). OutersLow w ys) e more
low_append k n (x ∷ xs) ys long h more = (h.0, low_append (suc k) (length xs) xs ys refl h.1 (let e : k + n ≡ suc k + length xs = omega arith in subst (λ (w : ℕ). OutersLow w ys) e more))

pub low_at : (k : ℕ) (spaces : List SpaceEntry) → OutersLow k spaces → (j : ℕ) (x : SpaceEntry) → slice_get spaces j ≡ Some x → x.outer ≤ k + j
low_at k [] h j x e = absurd cc
low_at k (y ∷ spaces) h zero x e = (let same : y ≡ x = cc in let le = h.0 in let o = ap (λ (w : SpaceEntry). w.outer) same in omega arith)
low_at k (y ∷ spaces) h (suc j) x e = (let r = low_at (suc k) spaces h.1 j x e in omega arith)

-- ---- entries: each is behind the one before it

abbrev pub EntriesRise : ℕ → ℕ → List SpaceEntry → Type 0
EntriesRise from to [] = from ≤ to
EntriesRise from to (x ∷ spaces) = (from ≤ x.entry) × EntriesRise (suc x.entry) to spaces

rise_from : (from from' to : ℕ) (xs : List SpaceEntry) → from' ≤ from → EntriesRise from to xs → EntriesRise from' to xs
rise_from from from' to [] le h = omega arith
rise_from from from' to (x ∷ xs) le h = ((let a = h.0 in omega arith), h.1)

pub rise_append : (from mid to : ℕ) (xs ys : List SpaceEntry) → EntriesRise from mid xs → EntriesRise mid to ys → EntriesRise from to (xs ++ ys)
rise_append from mid to [] ys h k = rise_from mid from to ys h k
rise_append from mid to (x ∷ xs) ys h k = (h.0, rise_append (suc x.entry) mid to xs ys h.1 k)

above : (from to : ℕ) (xs : List SpaceEntry) → EntriesRise from to xs → (j : ℕ) (x : SpaceEntry) → slice_get xs j ≡ Some x → from ≤ x.entry
above from to [] h j x e = absurd cc
above from to (y ∷ xs) h zero x e = (let same : y ≡ x = cc in let le = h.0 in let o = ap (λ (w : SpaceEntry). w.entry) same in omega arith)
above from to (y ∷ xs) h (suc j) x e = (let r = above (suc y.entry) to xs h.1 j x e in let le = h.0 in omega arith)

-- so no two are of one entry
pub one_space : (from to : ℕ) (xs : List SpaceEntry) → EntriesRise from to xs → (i j : ℕ) (x y : SpaceEntry) → slice_get xs i ≡ Some x → slice_get xs j ≡ Some y → x.entry ≡ y.entry → i ≡ j
one_space from to [] h i j x y e f same = absurd cc
one_space from to (z ∷ xs) h zero zero x y e f same = refl
one_space from to (z ∷ xs) h zero (suc j) x y e f same =
    let is : z ≡ x = cc in
    let o = ap (λ (w : SpaceEntry). w.entry) is in
    let r = above (suc z.entry) to xs h.1 j y f in
    absurd (omega arith)
one_space from to (z ∷ xs) h (suc i) zero x y e f same =
    let is : z ≡ y = cc in
    let o = ap (λ (w : SpaceEntry). w.entry) is in
    let r = above (suc z.entry) to xs h.1 i x e in
    absurd (omega arith)
one_space from to (z ∷ xs) h (suc i) (suc j) x y e f same = ap suc (one_space (suc z.entry) to xs h.1 i j x y e f same)

-- ---- of a list

list_low : (outer k at : ℕ) (f : Entries ℕ) → outer ≤ k → OutersLow k (spaces_among is_space outer k at f)
unfolding spaces_among
list_low outer k at End le = tt
list_low outer k at (Entry e c n) le =
    by (is_space e) (list_low outer k (at + 1 + size c) n le) (list_low (suc k) (suc k) (at + 1) c (omega arith)) (list_low outer (suc k + spaces_by is_space c) (at + 1 + size c) n (omega arith))
  where
    a : List SpaceEntry
    a = spaces_among is_space (suc k) (suc k) (at + 1) c

    b : List SpaceEntry
    b = spaces_among is_space outer (suc k + spaces_by is_space c) (at + 1 + size c) n

    by : (t : Bool) → OutersLow k (spaces_among is_space outer k (at + 1 + size c) n) → OutersLow (suc k) a → OutersLow (suc k + spaces_by is_space c) b
        → OutersLow k (elim t as (λ _. List SpaceEntry) [ false ↦ spaces_among is_space outer k (at + 1 + size c) n | true ↦ space_entry at outer ∷ (a ++ b) ])
    by false p q r = p
    by true p q r = (le, low_append (suc k) (spaces_by is_space c) a b (spaces_many is_space (suc k) (suc k) (at + 1) c) q r)

list_rise : (outer k at : ℕ) (f : Entries ℕ) → EntriesRise at (at + size f) (spaces_among is_space outer k at f)
unfolding spaces_among
list_rise outer k at End = omega arith
list_rise outer k at (Entry e c n) =
    by (is_space e) (list_rise outer k (at + 1 + size c) n) (list_rise (suc k) (suc k) (at + 1) c) (list_rise outer (suc k + spaces_by is_space c) (at + 1 + size c) n)
  where
    a : List SpaceEntry
    a = spaces_among is_space (suc k) (suc k) (at + 1) c

    b : List SpaceEntry
    b = spaces_among is_space outer (suc k + spaces_by is_space c) (at + 1 + size c) n

    ends : at + 1 + size c + size n ≡ at + size (Entry e c n)
    ends = omega arith

    by : (t : Bool) → EntriesRise (at + 1 + size c) (at + 1 + size c + size n) (spaces_among is_space outer k (at + 1 + size c) n) → EntriesRise (at + 1) (at + 1 + size c) a
        → EntriesRise (at + 1 + size c) (at + 1 + size c + size n) b
        → EntriesRise at (at + size (Entry e c n)) (elim t as (λ _. List SpaceEntry) [ false ↦ spaces_among is_space outer k (at + 1 + size c) n | true ↦ space_entry at outer ∷ (a ++ b) ])
    by false p q r = subst (λ (w : ℕ). EntriesRise at w (spaces_among is_space outer k (at + 1 + size c) n)) ends (rise_from (at + 1 + size c) at (at + 1 + size c + size n) _ (omega arith) p)
    by true p q r =
        let one : at + 1 ≡ suc at = omega arith in (
          omega arith,
          subst (λ (w : ℕ). EntriesRise (suc at) w (a ++ b)) ends
              (subst (λ (w : ℕ). EntriesRise w (at + 1 + size c + size n) (a ++ b)) one (rise_append (at + 1) (at + 1 + size c) (at + 1 + size c + size n) a b q r)),
        )

-- ---- of units

unit_low : (k at : ℕ) (b : Below (Node ℕ)) → OutersLow k (space_entries is_space k at b)
unit_low k at b = by b.compile where
  by : (t : Bool) → OutersLow k (space_entries is_space k at (record { compile = t; list = b.list }))
  by true = list_low 0 k (at + 1) b.list (omega arith)
  by false = tt

unit_rise : (k at : ℕ) (b : Below (Node ℕ)) → EntriesRise at (at + 1 + size b.list) (space_entries is_space k at b)
unit_rise k at b = by b.compile where
  by : (t : Bool) → EntriesRise at (at + 1 + size b.list) (space_entries is_space k at (record { compile = t; list = b.list }))
  by true = rise_from (at + 1) at (at + 1 + size b.list) (spaces_among is_space 0 k (at + 1) b.list) (omega arith) (list_rise 0 k (at + 1) b.list)
  by false = omega arith

pub units_low : (s : Starts) (at : ℕ) (units : List (DwUnit ℕ)) → OutersLow s.space (all_spaces is_space s at (map below_root units))
unfolding all_spaces
units_low s at [] = tt
units_low s at (v ∷ units) =
    let next = starts_behind is_space s (below_root v) in
    low_append s.space (spaces_of_list is_space (below_root v)) (space_entries is_space s.space at (below_root v)) (all_spaces is_space next (at + 1 + size v.below) (map below_root units))
    (entries_many s.space at (below_root v)) (unit_low s.space at (below_root v)) (units_low next (at + 1 + size v.below) units)

-- how many entries these units have
unfoldable pub entries_among : List (DwUnit ℕ) → ℕ
entries_among [] = 0
entries_among (v ∷ units) = 1 + size v.below + entries_among units

pub units_rise : (s : Starts) (at : ℕ) (units : List (DwUnit ℕ)) → EntriesRise at (at + entries_among units) (all_spaces is_space s at (map below_root units))
unfolding all_spaces entries_among
units_rise s at [] = omega arith
units_rise s at (v ∷ units) =
    let next = starts_behind is_space s (below_root v) in
    let end : at + 1 + size v.below + entries_among units ≡ at + (1 + size v.below + entries_among units) = omega arith in
    let a = space_entries is_space s.space at (below_root v) in
    let b = all_spaces is_space next (at + 1 + size v.below) (map below_root units) in
    subst (λ (w : ℕ). EntriesRise at w (a ++ b)) end
    (rise_append at (at + 1 + size v.below) (at + 1 + size v.below + entries_among units) a b (unit_rise s.space at (below_root v)) (units_rise next (at + 1 + size v.below) units))

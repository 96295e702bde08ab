-- Rows in order of place.
use Rattle.std.proofs.Common.{◌≡◌, ℕ, zero, suc, ◌+◌, ◌<◌, ◌≤◌, true, false, List, [], ◌∷◌, ◌++◌, length, map, get_or, take, Some, None, slice_get, refl, sym, ap, subst, ◌∙◌, inl, inr}
use Rattle.std.proofs.Common.{arith}
use Rattle.std.specs.Option.{option_map}
use Rattle.std.proofs.lemmas.Bool.{cases_lt}
use Rattle.std.proofs.lemmas.List.{length-map}
use Rattle.std.proofs.lemmas.Option.{get_or_from_slice_get, slice_get-map}
use Rattle.dwz_def_reading.specs.Lists.{In}
use Rattle.dwz_def_reading.proofs.ListFacts.{got_below, got_in as at_in, same_got}
use Rattle.dwz_graph_resolve.specs.declared.operands.ListOperand.{ListOperand}
use Rattle.dwz_graph_resolve.specs.Apart.{Behind, FindsForeign, Overlaps, Rows, Test, owns_place, places_of_rows}
use Rattle.dwz_graph_resolve.proofs.PlaceLemmas.{Ascend, ascend_at, ascend_lower}
use Rattle.dwz_graph_resolve.proofs.SearchLemmas.{Rise as Rising}

-- ---- what is at an index

pub map_at : {X : Type 0} (f : X → ℕ) (xs : List X) (k : ℕ) (x : X) → k < length xs → x ≡ get_or xs k x → get_or (map f xs) k 0 ≡ f x
map_at f [] k x l e = absurd (omega arith)
map_at f (y ∷ xs) zero x l e = ap f (sym e)
map_at f (y ∷ xs) (suc k) x l e = map_at f xs k x (omega arith) e

pub in_at : {X : Type 0} (xs : List X) (x : X) → In x xs → (k : ℕ) × (k < length xs) × (slice_get xs k ≡ Some x)
in_at [] x h = absurd h
in_at {X} (y ∷ xs) x (inl e) = (0, omega arith, ap (λ (w : X). Some w) e)
in_at (y ∷ xs) x (inr h) = let r = in_at xs x h in let lt = r.1 in (suc r.0, omega arith, r.2)

pub in_take : {X : Type 0} (x : X) (xs : List X) (k : ℕ) → In x (take k xs) → In x xs
in_take x [] zero h = absurd h
in_take x [] (suc k) h = absurd h
in_take x (y ∷ xs) zero h = absurd h
in_take x (y ∷ xs) (suc k) (inl e) = inl e
in_take x (y ∷ xs) (suc k) (inr h) = inr (in_take x xs k h)

-- ---- rows rise

pub rows_lower : (rows : List ListOperand) (from low to : ℕ) → low ≤ from → Rows from rows to → Rows low rows to
rows_lower [] from low to le h = omega (arith, le, h)
rows_lower (o ∷ rows) from low to le h = (omega (arith, le, h.0), h.1, h.2)

pub rows_higher : (rows : List ListOperand) (from to high : ℕ) → to ≤ high → Rows from rows to → Rows from rows high
rows_higher [] from to high le h = omega (arith, le, h)
rows_higher (o ∷ rows) from to high le h = (h.0, h.1, rows_higher rows (o.at + o.width) to high le h.2)

pub rows_push : (rows : List ListOperand) (from to : ℕ) (o : ListOperand) → Rows from rows to → to ≤ o.at → 0 < o.width → Rows from (rows ++ o ∷ []) (o.at + o.width)
rows_push [] from to o h le some = (omega (arith, h, le), some, omega arith)
rows_push (p ∷ rows) from to o h le some = (h.0, h.1, rows_push rows (p.at + p.width) to o h.2 le some)

rows_ascend : (rows : List ListOperand) (from to : ℕ) → Rows from rows to → Ascend from (places_of_rows rows) to
rows_ascend [] from to h = h
rows_ascend (o ∷ rows) from to h = let some = h.1 in (h.0, ascend_lower (places_of_rows rows) (o.at + o.width) to (o.at + 1) (omega arith) (rows_ascend rows (o.at + o.width) to h.2))

pub rows_rise : (rows : List ListOperand) (from to : ℕ) → Rows from rows to → Rising (places_of_rows rows)
rows_rise rows from to h i j l m = ascend_at (places_of_rows rows) from to i j (rows_ascend rows from to h) l m

-- where they end
abbrev pub ends : List ListOperand → List ℕ
ends rows = map (λ o. o.at + o.width) rows

ends_ascend : (rows : List ListOperand) (from to : ℕ) → Rows from rows to → Ascend (from + 1) (ends rows) (to + 1)
ends_ascend [] from to h = omega (arith, h)
ends_ascend (o ∷ rows) from to h = let low = h.0 in let some = h.1 in (omega arith, ends_ascend rows (o.at + o.width) to h.2)

pub ends_rise : (rows : List ListOperand) (from to : ℕ) → Rows from rows to → Rising (ends rows)
ends_rise rows from to h i j l m = ascend_at (ends rows) (from + 1) (to + 1) i j (ends_ascend rows from to h) l m

pub each_wide : (rows : List ListOperand) (from to : ℕ) → Rows from rows to → (o : ListOperand) → In o rows → 0 < o.width
each_wide [] from to h o is = absurd is
each_wide (p ∷ rows) from to h o (inl e) = subst (λ (w : ListOperand). 0 < w.width) e h.1
each_wide (p ∷ rows) from to h o (inr later) = each_wide rows (p.at + p.width) to h.2 o later

pub each_behind : (rows : List ListOperand) (from to : ℕ) → Rows from rows to → (o : ListOperand) → In o rows → from ≤ o.at
each_behind [] from to h o is = absurd is
each_behind (p ∷ rows) from to h o (inl e) = subst (λ (w : ListOperand). from ≤ w.at) e h.0
each_behind (p ∷ rows) from to h o (inr later) = let low = h.0 in let more = each_behind rows (p.at + p.width) to h.2 o later in omega arith

-- two rows with a byte in common are one
pub one_row : (rows : List ListOperand) (from to : ℕ) → Rows from rows to → (o p : ListOperand) → In o rows → In p rows → (b : ℕ) → o.at ≤ b → b < o.at + o.width → p.at ≤ b → b < p.at + p.width
    → o ≡ p
one_row [] from to h o p is there b l m x y = absurd is
one_row (q ∷ rows) from to h o p (inl s) (inl t) b l m x y = sym s ∙ t
one_row (q ∷ rows) from to h o p (inl s) (inr t) b l m x y =
    let behind = each_behind rows (q.at + q.width) to h.2 p t in
    let end : b < q.at + q.width = subst (λ (w : ListOperand). b < w.at + w.width) (sym s) m in
    absurd (omega arith)
one_row (q ∷ rows) from to h o p (inr s) (inl t) b l m x y =
    let behind = each_behind rows (q.at + q.width) to h.2 o s in
    let end : b < q.at + q.width = subst (λ (w : ListOperand). b < w.at + w.width) (sym t) y in
    absurd (omega arith)
one_row (q ∷ rows) from to h o p (inr s) (inr t) b l m x y = one_row rows (q.at + q.width) to h.2 o p s t b l m x y

-- ---- how many end before a place

pub record Parted (es : List ℕ) (place low high : ℕ) : Type 0 where
  pub order : low ≤ high
  pub within : high ≤ length es
  pub below : (k : ℕ) → k < low → get_or es k 0 ≤ place
  pub above : (k : ℕ) → high ≤ k → k < length es → place < get_or es k 0

pub parted_all : (es : List ℕ) (place : ℕ) → Parted es place 0 (length es)
parted_all es place = record { order = omega arith; within = omega arith; below = λ k l. absurd (omega arith); above = λ k l m. absurd (omega arith) }

pub parted_up : (es : List ℕ) (place low high middle end : ℕ) → Rising es → low ≤ middle → middle < high → get_or es middle 0 ≡ end → end ≤ place → Parted es place low high
    → Parted es place (middle + 1) high
parted_up es place low high middle end rise l m e le h =
    let within = h.within in record {
      order = omega arith;
      within = h.within;
      below = λ k j. elim (cases_lt k middle) [
        | inl lt ↦ let up = rise k middle lt (omega arith) in omega arith
        | inr ge ↦ let same : k ≡ middle = omega arith in let here = ap (λ (n : ℕ). get_or es n 0) same in omega arith
      ];
      above = h.above;
    }

pub parted_down : (es : List ℕ) (place low high middle end : ℕ) → Rising es → low ≤ middle → middle < high → get_or es middle 0 ≡ end → place < end → Parted es place low high
    → Parted es place low middle
parted_down es place low high middle end rise l m e lt h =
    let within = h.within in record {
      order = l;
      within = omega arith;
      below = h.below;
      above = λ k i j. elim (cases_lt middle k) [
        | inl less ↦ let up = rise middle k less j in omega arith
        | inr ge ↦ let same : k ≡ middle = omega arith in let here = ap (λ (n : ℕ). get_or es n 0) same in omega arith
      ];
    }

pub parted_behind : (rows : List ListOperand) (place low high : ℕ) → high ≤ low → Parted (ends rows) place low high → Behind rows place low
parted_behind rows place low high stop h =
    let order = h.order in
    let within = h.within in
    let many = length-map rows (λ (o : ListOperand). o.at + o.width) in record {
      within = omega arith;
      before = λ k r e l. let below = h.below k l in let is = ends_at rows k r e in omega arith;
      after = λ k r e l. (let is = ends_at rows k r e in let at = at_within rows k r e in let above = h.above k (omega arith) (omega arith) in omega arith);
    } where
      ends_at : (rows : List ListOperand) (k : ℕ) (r : ListOperand) → slice_get rows k ≡ Some r → get_or (ends rows) k 0 ≡ r.at + r.width
      ends_at rows k r e = get_or_from_slice_get (ends rows) k (r.at + r.width) 0 (slice_get-map (λ (o : ListOperand). o.at + o.width) rows k ∙ ap (option_map (λ (o : ListOperand). o.at + o.width)) e)

      at_within : (rows : List ListOperand) (k : ℕ) (r : ListOperand) → slice_get rows k ≡ Some r → k < length rows
      at_within [] k r e = absurd cc
      at_within (o ∷ rows) zero r e = omega arith
      at_within (o ∷ rows) (suc k) r e = let more = at_within rows k r e in omega arith

pub map_get : {X : Type 0} (f : X → ℕ) (xs : List X) (k : ℕ) (d : X) → k < length xs → get_or (map f xs) k 0 ≡ f (get_or xs k d)
map_get f [] k d l = absurd (omega arith)
map_get f (y ∷ xs) zero d l = refl
map_get f (y ∷ xs) (suc k) d l = map_get f xs k d (omega arith)

pub above : (a p : ℕ) → (a ≡ p → ⊥) → p ≤ a → p < a
above a p other le = elim (cases_lt p a) [
  | inl lt ↦ lt
  | inr ge ↦ absurd (other (let same : a ≡ p = omega arith in same))
]

-- ---- the first row of others

-- each of the first so many rows that has a byte there is an own one
abbrev pub OwnBefore : List ListOperand → Test → ℕ → Type 0
OwnBefore kept t k = (j : ℕ) (r : ListOperand) → slice_get kept j ≡ Some r → j < k → Overlaps r t → owns_place t r.at ≡ true

place_of : (rows : List ListOperand) (k : ℕ) (r : ListOperand) → slice_get rows k ≡ Some r → get_or (places_of_rows rows) k 0 ≡ r.at
place_of rows k r e = get_or_from_slice_get (places_of_rows rows) k r.at 0 (slice_get-map (λ (o : ListOperand). o.at) rows k ∙ ap (option_map (λ (o : ListOperand). o.at)) e)

at_rises : (rows : List ListOperand) (top i j : ℕ) (r p : ListOperand) → Rows 0 rows top → slice_get rows i ≡ Some r → slice_get rows j ≡ Some p → i < j → r.at < p.at
at_rises rows top i j r p h e f lt =
    let within = got_below rows j p f in
    let many = length-map rows (λ (o : ListOperand). o.at) in
    let up = rows_rise rows 0 top h i j lt (omega arith) in
    let a = place_of rows i r e in
    let b = place_of rows j p f in
    omega arith

pub own_begins : (kept : List ListOperand) (t : Test) (first : ℕ) → Behind kept t.from first → OwnBefore kept t first
own_begins kept t first h j r e lt over = absurd (let end = h.before j r e lt in let high = over.high in omega arith)

pub own_more : (kept : List ListOperand) (t : Test) (k : ℕ) (r : ListOperand) → slice_get kept k ≡ Some r → owns_place t r.at ≡ true → OwnBefore kept t k → OwnBefore kept t (k + 1)
own_more kept t k r e owns h j p f lt over = elim (cases_lt j k) [
  | inl less ↦ h j p f less over
  | inr ge ↦
      let same : j ≡ k = omega arith in
      let one = same_got kept k r p e (ap (slice_get kept) (sym same) ∙ f) in
      subst (λ (w : ListOperand). owns_place t w.at ≡ true) one owns
]

pub foreign_all : (kept : List ListOperand) (t : Test) (k : ℕ) → length kept ≤ k → OwnBefore kept t k → FindsForeign kept t None
foreign_all kept t k le h = record {
  none = λ r is before over. (let i = in_at kept r is in let lt = i.1 in h i.0 r i.2 (omega arith) over);
  some = tt;
}

pub foreign_past : (kept : List ListOperand) (t : Test) (top k : ℕ) (row : ListOperand) → Rows 0 kept top → slice_get kept k ≡ Some row → t.end ≤ row.at → OwnBefore kept t k → FindsForeign kept t None
foreign_past kept t top k row rows e past h = record {
  none = λ r is before over. (
      let i = in_at kept r is in
      elim (cases_lt i.0 k) [
        | inl lt ↦ h i.0 r i.2 lt over
        | inr ge ↦ absurd (let low = over.low in elim (cases_lt k i.0) [
          | inl less ↦ let up = at_rises kept top k i.0 row r rows e i.2 less in omega arith
          | inr more ↦ let same : i.0 ≡ k = omega arith in let one = ap (λ (w : ListOperand). w.at) (same_got kept k row r e (ap (slice_get kept) (sym same) ∙ i.2)) in omega arith
        ])
      ]);
  some = tt;
}

pub foreign_here : (kept : List ListOperand) (t : Test) (top first k : ℕ) (row : ListOperand) → Rows 0 kept top → Behind kept t.from first → first ≤ k → slice_get kept k ≡ Some row → row.at < t.end
    → owns_place t row.at ≡ false → OwnBefore kept t k → FindsForeign kept t (Some row.at)
foreign_here kept t top first k row rows behind from e low other h = record {
  none = λ r is before over. (
      let i = in_at kept r is in
      elim (cases_lt i.0 k) [
        | inl lt ↦ h i.0 r i.2 lt over
        | inr ge ↦ absurd (elim (cases_lt k i.0) [
          | inl less ↦ let up = at_rises kept top k i.0 row r rows e i.2 less in omega arith
          | inr more ↦ let same : i.0 ≡ k = omega arith in let one = ap (λ (w : ListOperand). w.at) (same_got kept k row r e (ap (slice_get kept) (sym same) ∙ i.2)) in omega arith
        ])
      ]);
  some = record { row = row; is_row = at_in kept k row e; at = refl; overlaps = record { low = low; high = behind.after k row e from }; other = other };
}

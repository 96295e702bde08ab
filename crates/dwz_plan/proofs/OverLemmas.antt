-- Free rows, takers and the tops of partial units of a common file, by the steps.
use Rattle.std.proofs.Common.{◌≡◌, ℕ, zero, suc, ◌+◌, ◌-◌, ◌<◌, ◌≤◌, ◌==◌, ◌||◌, inl, inr, All, cond, Bool, true, false, List, [], ◌∷◌, ◌++◌, length, map, get_or, take, refl, sym, ap, subst}
use Rattle.std.proofs.Common.{◌∙◌, arith, eq-eqb}
use Rattle.std.specs.Prelude.{nat_eq, nat_le}
use Rattle.std.specs.List.{dedup, list_any, range_with_len}
use Rattle.std.proofs.lemmas.Bool.{cases_eq, cases_lt, ne_eqb}
use Rattle.std.proofs.lemmas.Bool.Decides.{leb_tells}
use Rattle.std.proofs.lemmas.List.{append-nil, append_assoc, get_or_default}
use Rattle.std.proofs.lemmas.List.Sums.{position_or_len_is}
use Rattle.std.proofs.lemmas.List.Elements.{All-append, All-cons, All-head, All-nil, All-tail}
use Rattle.dwz_def_reading.specs.Rows.{has}
use Rattle.dwz_def_taken.specs.declared.fixed.Fixed.{Fixed}
use Rattle.dwz_def_taken.specs.Takes.{is_free}
use Rattle.dwz_groups.specs.declared.groups.Edge.{Edge}
use Rattle.dwz_groups.specs.declared.tops.TopRow.{TopRow}
use Rattle.dwz_groups.specs.Groups.{grouped, values_at}
use Rattle.dwz_plan.specs.Over.{count_own, free_row, free_rows, takers_from, tops_in}
use Rattle.dwz_plan.specs.OverSteps.{standing_one, standing_pairs}
use Rattle.dwz_plan.specs.Steps.{pair, turned}
use Rattle.dwz_plan.proofs.ListFacts.{map_map}
use Rattle.dwz_plan.proofs.TurnedLemmas.{dedup-repeats, turned_values, values-turned_one, values_all, values_at-append}

-- ---- how many rows are of the files

pub count_is : (u : ℕ) (rows : List TopRow) (i : ℕ) (d : TopRow) → i ≤ length rows → ((k : ℕ) → k < i → nat_le u (get_or rows k d).unit ≡ false)
    → (i < length rows → nat_le u (get_or rows i d).unit ≡ true) → i ≡ count_own u rows
count_is u rows i d l before here = sym (position_or_len_is (λ (row : TopRow). nat_le u row.unit) rows i d l before here)

not_le : (u n : ℕ) → n < u → nat_le u n ≡ false
not_le u n l = elim (leb_tells u n) [
  | inl e ↦ absurd (let k = e.1 in omega arith)
  | inr e ↦ e.0
]

pub count_next : (u : ℕ) (rows : List TopRow) (i : ℕ) (e : TopRow) → i < length rows → (get_or rows i e).unit < u
    → ((k : ℕ) (d : TopRow) → k < i → nat_le u (get_or rows k d).unit ≡ false) → (k : ℕ) (d : TopRow) → k < i + 1 → nat_le u (get_or rows k d).unit ≡ false
count_next u rows i e l low before k d m = elim (cases_lt k i) [
  | inl less ↦ before k d less
  | inr more ↦ (let same : i ≡ k = omega arith in
      subst (λ (j : ℕ). nat_le u (get_or rows j d).unit ≡ false) same (ap (λ (w : TopRow). nat_le u w.unit) (get_or_default rows i d e l) ∙ not_le u (get_or rows i e).unit low))
]

-- ---- free rows, one more

pub free-more : (fixed : Fixed) (n : ℕ) (rows : List TopRow) (i : ℕ) (d : TopRow) → i < length rows
    → free_rows fixed n (take (i + 1) rows) ≡ free_rows fixed n (take i rows) ++ free_row (is_free fixed (n + i)) (get_or rows i d) ∷ []
unfolding free_rows
free-more fixed n [] i d l = absurd (omega arith)
free-more fixed n (r ∷ rows) zero d l = let z : n ≡ n + 0 = omega arith in ap (λ k. free_row (is_free fixed k) r ∷ []) z
free-more fixed n (r ∷ rows) (suc i) d l =
    let s : suc i + 1 ≡ suc (i + 1) = omega arith in
    let e : suc n + i ≡ n + suc i = omega arith in
    ap (λ k. free_rows fixed n (take k (r ∷ rows))) s
    ∙ ap (λ (rs : List TopRow). free_row (is_free fixed n) r ∷ rs) (free-more fixed (suc n) rows i d (omega arith) ∙ ap (λ k. free_rows fixed (suc n) (take i rows) ++ free_row (is_free fixed k) (get_or rows i d) ∷ []) e)

-- ---- takers

has_any : (v : ℕ) (ns : List ℕ) → list_any (λ n. n == v) ns ≡ has v ns
unfolding has
has_any v [] = refl
has_any v (n ∷ ns) = by (n == v) (has_any v ns)
  where
    by : (b : Bool) → list_any (λ n. n == v) ns ≡ has v ns → (b || list_any (λ n. n == v) ns) ≡ cond b true (has v ns)
    by true more = refl
    by false more = more

takers_at : (part s : ℕ) (takes : List (List ℕ)) → dedup nat_eq (values_at (turned s takes) part) ≡ takers_from part s takes
unfolding turned values_at takers_from
takers_at part s [] = refl
takers_at part s (parts ∷ takes) =
    let rest : List Edge = turned (s + 1) takes in
    let one : s + 1 ≡ suc s = omega arith in
    let more : dedup nat_eq (values_at rest part) ≡ takers_from part (suc s) takes = takers_at part (s + 1) takes ∙ ap (λ k. takers_from part k takes) one in
    let above : All (λ y. s < y) (values_at rest part) = values_all (λ y. s < y) rest part (turned_values s (s + 1) takes (omega arith)) in
    ap (dedup nat_eq) (values_at-append (map (λ k. pair k s) parts) rest part ∙ ap (λ (xs : List ℕ). xs ++ values_at rest part) (values-turned_one s part parts))
    ∙ (dedup-repeats s part parts (values_at rest part) above
    ∙ (λ i. cond (has_any part parts i) (s ∷ more i) (more i)))

pub takers_are : (count : ℕ) (takes : List (List ℕ)) → map (dedup nat_eq) (grouped count (turned 0 takes)) ≡ map (λ p. takers_from p 0 takes) (range_with_len 0 count)
unfolding grouped
takers_are count takes = map_map (dedup nat_eq) (values_at (turned 0 takes)) (range_with_len 0 count) ∙ (λ i. map (λ p. takers_at p 0 takes i) (range_with_len 0 count))

-- ---- the tops of partial units

one_value : (first : ℕ) (row : TopRow) (n p : ℕ) → values_at (standing_one first row n) p ≡ cond (row.unit == first + p) (n ∷ []) []
unfolding values_at
one_value first row n p = elim (leb_tells first row.unit) [
  | inl l ↦ ap (λ b. values_at (cond b (pair (row.unit - first) n ∷ []) []) p) l.0 ∙ there l.1
  | inr l ↦ ap (λ b. values_at (cond b (pair (row.unit - first) n ∷ []) []) p) l.0 ∙ ap (λ b. cond b (n ∷ []) []) (sym (ne_eqb row.unit (first + p) (λ e. (let k = l.1 in omega arith))))
]
  where
    by : (b : Bool) → map (λ (q : Edge). q.value) (cond b (pair (row.unit - first) n ∷ []) []) ≡ cond b (n ∷ []) []
    by true = refl
    by false = refl

    there : first ≤ row.unit → values_at (pair (row.unit - first) n ∷ []) p ≡ cond (row.unit == first + p) (n ∷ []) []
    there l = by (row.unit - first == p) ∙ elim (cases_eq row.unit (first + p)) [
      | inl e ↦ (λ i. cond ((eq-eqb (row.unit - first) p (omega (arith, e)) ∙ sym (eq-eqb row.unit (first + p) e)) i) (n ∷ []) [])
      | inr ne ↦ (λ i. cond ((ne_eqb (row.unit - first) p (λ e. ne (omega (arith, e, l))) ∙ sym (ne_eqb row.unit (first + p) ne)) i) (n ∷ []) [])
    ]

no_values : (p : ℕ) → values_at [] p ≡ []
unfolding values_at
no_values p = refl

tops_at : (first n : ℕ) (rows : List TopRow) (p : ℕ) → values_at (standing_pairs first n rows) p ≡ tops_in (first + p) n rows
unfolding standing_pairs tops_in
tops_at first n [] p = no_values p
tops_at first n (r ∷ rows) p =
    values_at-append (standing_one first r n) (standing_pairs first (suc n) rows) p ∙ ((λ i. one_value first r n p i ++ tops_at first (suc n) rows p i) ∙ by (r.unit == first + p))
  where
    by : (b : Bool) → cond b (n ∷ []) [] ++ tops_in (first + p) (suc n) rows ≡ cond b (n ∷ tops_in (first + p) (suc n) rows) (tops_in (first + p) (suc n) rows)
    by true = refl
    by false = refl

pub held_are : (first count : ℕ) (rows : List TopRow) → grouped count (standing_pairs first 0 rows) ≡ map (λ p. tops_in (first + p) 0 rows) (range_with_len 0 count)
unfolding grouped
held_are first count rows = (λ i. map (λ p. tops_at first 0 rows p i) (range_with_len 0 count))

pub standing-more : (first n : ℕ) (rows : List TopRow) (i : ℕ) (d : TopRow) → i < length rows
    → standing_pairs first n (take (i + 1) rows) ≡ standing_pairs first n (take i rows) ++ standing_one first (get_or rows i d) (n + i)
unfolding standing_pairs
standing-more first n [] i d l = absurd (omega arith)
standing-more first n (r ∷ rows) zero d l = append-nil (standing_one first r n) ∙ (let z : n ≡ n + 0 = omega arith in ap (standing_one first r) z)
standing-more first n (r ∷ rows) (suc i) d l =
    let s : suc i + 1 ≡ suc (i + 1) = omega arith in
    let e : suc n + i ≡ n + suc i = omega arith in
    ap (λ k. standing_pairs first n (take k (r ∷ rows))) s
    ∙ (ap (λ (ps : List Edge). standing_one first r n ++ ps) (standing-more first (suc n) rows i d (omega arith) ∙ ap (λ k. standing_pairs first (suc n) (take i rows) ++ standing_one first (get_or rows i d) k) e)
    ∙ sym (append_assoc (standing_one first r n) (standing_pairs first (suc n) (take i rows)) (standing_one first (get_or rows i d) (n + suc i))))

pub standing_keys : (first count n : ℕ) (rows : List TopRow) → All (λ r. r.unit < first + count) rows → All (λ p. p.key < count) (standing_pairs first n rows)
unfolding standing_pairs
standing_keys first count n [] all = All-nil (λ (p : Edge). p.key < count)
standing_keys first count n (r ∷ rows) all =
    All-append (λ (p : Edge). p.key < count) (standing_one first r n) (standing_pairs first (suc n) rows) (elim (leb_tells first r.unit) [
      | inl l ↦ subst_one (sym l.0) (All-cons (λ (p : Edge). p.key < count) (pair (r.unit - first) n) []
          (let low = All-head (λ (r : TopRow). r.unit < first + count) r rows all in let k = l.1 in omega arith) (All-nil (λ (p : Edge). p.key < count)))
      | inr l ↦ subst_one (sym l.0) (All-nil (λ (p : Edge). p.key < count))
    ])
    (standing_keys first count (suc n) rows (All-tail (λ (r : TopRow). r.unit < first + count) r rows all))
  where
    subst_one : {b : Bool} → b ≡ nat_le first r.unit → All (λ (p : Edge). p.key < count) (cond b (pair (r.unit - first) n ∷ []) []) → All (λ (p : Edge). p.key < count) (standing_one first r n)
    subst_one e all = subst (λ (b : Bool). All (λ (p : Edge). p.key < count) (cond b (pair (r.unit - first) n ∷ []) [])) e all

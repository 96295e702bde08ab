-- Numbers of items that pass a test, and rising numbers with the same members.
use Rattle.std.proofs.Common.{◌≡◌, ◌↔◌, ℕ, zero, suc, ◌+◌, ◌<◌, ◌≤◌, Bool, true, false, List, [], ◌∷◌, ◌++◌, map, length, Some, slice_get, get_or, refl, ap, subst, ◌∙◌, inl, inr}
use Rattle.std.proofs.Common.{arith, Contains}
use Rattle.std.specs.Prelude.{slice_index, eqb}
use Rattle.std.specs.List.{dedup}
use Rattle.std.specs.List.Sorted.{IsPermutation, IsSorted, IsStrictlyIncreasing}
use Rattle.std.specs.Ordering.{nat_cmp}
use Rattle.std.proofs.lemmas.List.Kept.{Contains-dedup_nat, Contains-from_dedup}
use Rattle.std.proofs.lemmas.List.Sorted.{Contains-permutation, IsPermutation-sym}
use Rattle.std.proofs.lemmas.Map.Keys.{IsStrictlyIncreasing-dedup}
use Rattle.dwz_model.specs.Lists.{In}
use Rattle.dwz_imports.specs.Stored.{numbers_where}
use Rattle.dwz_graph.proofs.SharedLaw.{contains_in, in_contains}

-- ---- rising numbers

-- they rise from a number on
abbrev pub RiseFrom : ℕ → List ℕ → Type 0
RiseFrom s [] = Unit {0}
RiseFrom s (n ∷ ns) = (s ≤ n) × RiseFrom (suc n) ns

pub rise_in : (s : ℕ) (ns : List ℕ) (n : ℕ) → RiseFrom s ns → In n ns → s ≤ n
rise_in s [] n h is = absurd is
rise_in s (m ∷ ns) n h (inl e) = omega (arith, h.0, e)
rise_in s (m ∷ ns) n h (inr r) = omega (arith, h.0, rise_in (suc m) ns n h.1 r)

pub rise_lower : (s t : ℕ) (ns : List ℕ) → t ≤ s → RiseFrom s ns → RiseFrom t ns
rise_lower s t [] le h = tt
rise_lower s t (n ∷ ns) le h = (omega (arith, le, h.0), h.1)

pub rise_append : (s : ℕ) (xs : List ℕ) (t : ℕ) (ys : List ℕ) → RiseFrom s xs → s ≤ t → ((n : ℕ) → In n xs → n < t) → RiseFrom t ys → RiseFrom s (xs ++ ys)
rise_append s [] t ys h le low k = rise_lower t s ys le k
rise_append s (x ∷ xs) t ys h le low k = (h.0, rise_append (suc x) xs t ys h.1 (let x_low = low x (inl refl) in omega arith) (λ n is. low n (inr is)) k)

-- those with the same members are equal
pub same_members : (s : ℕ) (xs : List ℕ) (t : ℕ) (ys : List ℕ) → RiseFrom s xs → RiseFrom t ys → ((n : ℕ) → In n xs ↔ In n ys) → xs ≡ ys
same_members s [] t [] h k both = refl
same_members s [] t (y ∷ ys) h k both = absurd ((both y).1 (inl refl))
same_members s (x ∷ xs) t [] h k both = absurd ((both x).0 (inl refl))
same_members s (x ∷ xs) t (y ∷ ys) h k both = (λ i. first i ∷ same_members (suc x) xs (suc y) ys h.1 k.1 (λ n. (to n, from n)) i) where
  up : (a : ℕ) (as' : List ℕ) (b : ℕ) (bs : List ℕ) → RiseFrom (suc b) bs → In a (b ∷ bs) → b ≤ a
  up a as' b bs r (inl e) = omega (arith, e)
  up a as' b bs r (inr m) = let l = rise_in (suc b) bs a r m in omega (arith, l)

  first : x ≡ y
  first = let a = up x xs y ys k.1 ((both x).0 (inl refl)) in let b = up y ys x xs h.1 ((both y).1 (inl refl)) in omega (arith, a, b)

  to : (n : ℕ) → In n xs → In n ys
  to n is = elim ((both n).0 (inr is)) [ inl e ↦ (let l = rise_in (suc x) xs n h.1 is in absurd (let f = first in omega (arith, l, e, f))) | inr r ↦ r ]

  from : (n : ℕ) → In n ys → In n xs
  from n is = elim ((both n).1 (inr is)) [ inl e ↦ (let l = rise_in (suc y) ys n k.1 is in absurd (let f = first in omega (arith, l, e, f))) | inr r ↦ r ]

strict_tail : (x : ℕ) (xs : List ℕ) → IsStrictlyIncreasing (x ∷ xs) → IsStrictlyIncreasing xs
strict_tail x xs h = λ k l.
    let e : suc k + 1 ≡ suc (k + 1) = omega arith in
    subst (λ m. slice_index xs k < slice_index (x ∷ xs) m) e (h (suc k) (omega arith))

pub strict_rise : (xs : List ℕ) (s : ℕ) → (0 < length xs → s ≤ get_or xs 0 0) → IsStrictlyIncreasing xs → RiseFrom s xs
strict_rise [] s first h = tt
strict_rise (x ∷ xs) s first h = (
  first (omega arith),
  strict_rise xs (suc x) (λ l. (
      let e : 0 + 1 ≡ suc 0 = omega arith in
      let lt : x < slice_index xs 0 = subst (λ m. x < slice_index (x ∷ xs) m) e (h 0 (omega arith)) in
      omega (arith, lt))) (strict_tail x xs h),
)

-- ---- numbers in order, each once

pub in_order : (old sorted new ys : List ℕ) → IsPermutation old sorted → IsSorted nat_cmp sorted → new ≡ dedup eqb sorted → RiseFrom 0 ys → ((n : ℕ) → In n old ↔ In n ys) → new ≡ ys
in_order old sorted new ys moved is once rise both =
    once ∙ same_members 0 (dedup eqb sorted) 0 ys (strict_rise (dedup eqb sorted) 0 (λ l. omega arith) (IsStrictlyIncreasing-dedup sorted is)) rise (λ n. (
      λ h. (both n).0 (contains_in old n (Contains-permutation sorted old n (IsPermutation-sym old sorted moved) (Contains-from_dedup _ sorted n (in_contains (dedup eqb sorted) n h)))),
      λ h. contains_in (dedup eqb sorted) n (Contains-dedup_nat sorted n (Contains-permutation old sorted n moved (in_contains old n ((both n).1 h)))),
    ))

-- ---- numbers of items that pass a test

abbrev pub IsWhere : {X : Type 0} → (X → Bool) → ℕ → List X → ℕ → Type 0
IsWhere {X} p s xs n = (k : ℕ) × (x : X) × (n ≡ s + k) × (slice_get xs k ≡ Some x) × (p x ≡ true)

pub where_rises : {X : Type 0} (p : X → Bool) (s : ℕ) (xs : List X) → RiseFrom s (numbers_where p s xs)
unfolding numbers_where
where_rises p s [] = tt
where_rises p s (x ∷ xs) = by (p x) (where_rises p (suc s) xs) where
  by : (b : Bool) → RiseFrom (suc s) (numbers_where p (suc s) xs) → RiseFrom s (elim b as (λ _. List ℕ) [ true ↦ s ∷ numbers_where p (suc s) xs | false ↦ numbers_where p (suc s) xs ])
  by true h = (omega arith, h)
  by false h = rise_lower (suc s) s (numbers_where p (suc s) xs) (omega arith) h

pub where_from : {X : Type 0} (p : X → Bool) (s : ℕ) (xs : List X) (n : ℕ) → In n (numbers_where p s xs) → IsWhere p s xs n
unfolding numbers_where
where_from p s [] n h = absurd h
where_from {X} p s (x ∷ xs) n h = by (p x) refl h (where_from p (suc s) xs n) where
  later : IsWhere p (suc s) xs n → IsWhere p s (x ∷ xs) n
  later (k, y, e, is, t) = (suc k, y, omega (arith, e), is, t)

  by : (b : Bool) → p x ≡ b → In n (elim b as (λ _. List ℕ) [ true ↦ s ∷ numbers_where p (suc s) xs | false ↦ numbers_where p (suc s) xs ]) → (In n (numbers_where p (suc s) xs) → IsWhere p
      (suc s) xs n)
      → IsWhere p s (x ∷ xs) n
  by true e (inl same) more = (0, x, omega (arith, same), refl, e)
  by true e (inr r) more = later (more r)
  by false e r more = later (more r)

pub in_where : {X : Type 0} (p : X → Bool) (s : ℕ) (xs : List X) (n : ℕ) → IsWhere p s xs n → In n (numbers_where p s xs)
unfolding numbers_where
in_where p s [] n (k, y, e, is, t) = absurd cc
in_where {X} p s (x ∷ xs) n (zero, y, e, is, t) = by (p x) (let same : x ≡ y = cc in ap p same ∙ t) where
  by : (b : Bool) → b ≡ true → In n (elim b as (λ _. List ℕ) [ true ↦ s ∷ numbers_where p (suc s) xs | false ↦ numbers_where p (suc s) xs ])
  by true q = inl (omega (arith, e))
  by false q = absurd cc
in_where {X} p s (x ∷ xs) n (suc k, y, e, is, t) = by (p x) (in_where p (suc s) xs n (k, y, omega (arith, e), is, t)) where
  by : (b : Bool) → In n (numbers_where p (suc s) xs) → In n (elim b as (λ _. List ℕ) [ true ↦ s ∷ numbers_where p (suc s) xs | false ↦ numbers_where p (suc s) xs ])
  by true q = inr q
  by false q = q

pub get_short : {X : Type 0} (xs : List X) (k : ℕ) (x : X) → slice_get xs k ≡ Some x → k < length xs
get_short [] k x e = absurd cc
get_short (y ∷ xs) zero x e = omega arith
get_short (y ∷ xs) (suc k) x e = let l = get_short xs k x e in omega (arith, l)

pub where_below : {X : Type 0} (p : X → Bool) (s : ℕ) (xs : List X) (n : ℕ) → In n (numbers_where p s xs) → n < s + length xs
where_below p s xs n h = let o = where_from p s xs n h in let l = get_short xs o.0 o.1 o.3 in omega (arith, l, o.2)

-- they depend on what passes alone
pub where_same : {X Y : Type 0} (p : X → Bool) (q : Y → Bool) (s : ℕ) (xs : List X) (ys : List Y) → map p xs ≡ map q ys → numbers_where p s xs ≡ numbers_where q s ys
unfolding numbers_where
where_same p q s [] [] e = refl
where_same p q s [] (y ∷ ys) e = absurd cc
where_same p q s (x ∷ xs) [] e = absurd cc
where_same p q s (x ∷ xs) (y ∷ ys) e =
    let first : p x ≡ q y = cc in
    let rest : map p xs ≡ map q ys = cc in
    let more = where_same p q (suc s) xs ys rest in
    (λ i. elim (first i) as (λ _. List ℕ) [ true ↦ s ∷ more i | false ↦ more i ])

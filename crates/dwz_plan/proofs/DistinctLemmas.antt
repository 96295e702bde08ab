-- Lists of which no two are the same, and their numbers.
use Rattle.std.proofs.Common.{◌≡◌, ℕ, zero, suc, ◌+◌, ◌<◌, ◌==◌, ◌⊎◌, inl, inr, not, cond, Bool, true, false, List, [], ◌∷◌, ◌++◌, length, map, filter, get_or, refl, sym, ap, ◌∙◌, arith, eq-eqb}
use Rattle.std.specs.List.{range_with_len, zip}
use Rattle.std.proofs.lemmas.Bool.{both_ways, cases_eq, ne_eqb, not-true}
use Rattle.std.proofs.lemmas.List.Elements.{filter-append}
use Rattle.dwz_def_reading.specs.Lists.{In}
use Rattle.dwz_def_reading.proofs.ListFacts.{any_in}
use Rattle.dwz_def_plan.specs.Plan.{distinct}
use Rattle.dwz_def_plan.proofs.PlanLemmas.{distinct_in}
use Rattle.dwz_def_tops.specs.Spots.{same_numbers}
use Rattle.dwz_plan.specs.Steps.{number_of}
use Rattle.dwz_plan.proofs.ListingLemmas.{has_list}
use Rattle.dwz_def_tops.proofs.Members.{in_filter_from}
use Rattle.dwz_def_tops.proofs.SpotLemmas.{numbers_same, numbers_true}

-- no two are the same
abbrev pub Apart : List (List ℕ) → Type 0
Apart [] = Unit {0}
Apart (us ∷ lists) = ((vs : List ℕ) → In vs lists → same_numbers us vs ≡ false) × Apart lists

apart_filter : (p : List ℕ → Bool) (lists : List (List ℕ)) → Apart lists → Apart (filter p lists)
apart_filter p [] h = tt
apart_filter p (us ∷ lists) h = by (p us) (apart_filter p lists h.1)
  where
    by : (t : Bool) → Apart (filter p lists) → Apart (cond t (us ∷ filter p lists) (filter p lists))
    by true more = (λ vs is. h.0 vs (in_filter_from p vs lists is).0, more)
    by false more = more

pub distinct_apart : (lists : List (List ℕ)) → Apart (distinct lists)
unfolding distinct
distinct_apart [] = tt
distinct_apart (us ∷ lists) = (
  λ vs is. not-true (same_numbers us vs) (in_filter_from (λ vs. not (same_numbers us vs)) vs (distinct lists) is).1,
  apart_filter (λ vs. not (same_numbers us vs)) (distinct lists) (distinct_apart lists),
)

filter_all : {X : Type 0} (p : X → Bool) (xs : List X) → ((x : X) → In x xs → p x ≡ true) → filter p xs ≡ xs
filter_all p [] h = refl
filter_all p (x ∷ xs) h = (λ i. cond (h x (inl refl) i) (x ∷ filter_all p xs (λ y is. h y (inr is)) i) (filter_all p xs (λ y is. h y (inr is)) i))

pub distinct_join : (xs ys : List (List ℕ)) → ((us vs : List ℕ) → In us xs → In vs ys → same_numbers us vs ≡ false) → distinct (xs ++ ys) ≡ distinct xs ++ distinct ys
unfolding distinct
distinct_join [] ys h = refl
distinct_join (us ∷ xs) ys h =
    let other : List ℕ → Bool = λ vs. not (same_numbers us vs) in
    let more = distinct_join xs ys (λ a b p q. h a b (inr p) q) in
    let stay : filter other (distinct ys) ≡ distinct ys = filter_all other (distinct ys) (λ vs is. ap not (h us vs (inl refl) (distinct_in vs ys is))) in
    ap (λ (ls : List (List ℕ)). us ∷ filter other ls) more ∙ ap (λ (ls : List (List ℕ)). us ∷ ls)
    (filter-append other (distinct xs) (distinct ys) ∙ ap (λ (ls : List (List ℕ)). filter other (distinct xs) ++ ls) stay)

pub has_from : (us : List ℕ) (lists : List (List ℕ)) → In us lists → has_list us lists ≡ true
has_from us lists is = any_in (same_numbers us) lists us is (numbers_same us)

pub get_in : {X : Type 0} (xs : List X) (i : ℕ) (d : X) → i < length xs → In (get_or xs i d) xs
get_in [] i d l = absurd (omega arith)
get_in (x ∷ xs) zero d l = inl refl
get_in (x ∷ xs) (suc i) d l = inr (get_in xs i d (omega arith))

-- the number of a list that is there is k exactly if it is the k-th
pub number_is : (lists : List (List ℕ)) (us : List ℕ) (k : ℕ) → Apart lists → In us lists → k < length lists → number_of lists us == k ≡ same_numbers us (get_or lists k [])
number_is [] us k apart is l = absurd is
number_is (vs ∷ lists) us zero apart is l = by (same_numbers us vs)
  where
    by : (t : Bool) → cond (not t) (1 + number_of lists us) 0 == 0 ≡ t
    by true = refl
    by false = ne_eqb (1 + number_of lists us) 0 (λ e. omega (arith, e))
number_is (vs ∷ lists) us (suc k) apart is l = by (same_numbers us vs) refl is (λ there. number_is lists us k apart.1 there (omega arith))
  where
    there : k < length lists
    there = omega arith

    step : (n : ℕ) → 1 + n == suc k ≡ n == k
    step n = both (cases_eq n k)
      where
        both : (n ≡ k) ⊎ (n ≡ k → ⊥) → 1 + n == suc k ≡ n == k
        both (inl e) = eq-eqb (1 + n) (suc k) (omega (arith, e)) ∙ sym (eq-eqb n k e)
        both (inr ne) = ne_eqb (1 + n) (suc k) (λ e. ne (omega (arith, e))) ∙ sym (ne_eqb n k ne)

    rest : same_numbers us vs ≡ false → In us (vs ∷ lists) → In us lists
    rest e (inl s) = absurd (both_ways (same_numbers us vs) e (ap (same_numbers us) s ∙ numbers_same us))
    rest e (inr r) = r

    by : (t : Bool) → same_numbers us vs ≡ t → In us (vs ∷ lists) → (In us lists → number_of lists us == k ≡ same_numbers us (get_or lists k []))
        → cond (not t) (1 + number_of lists us) 0 == suc k ≡ same_numbers us (get_or lists k [])
    by true e is more = ne_eqb 0 (suc k) (λ q. omega (arith, q)) ∙ sym
        (ap (λ (ws : List ℕ). same_numbers ws (get_or lists k [])) (numbers_true us vs e) ∙ apart.0 (get_or lists k []) (get_in lists k [] there))
    by false e is more = step (number_of lists us) ∙ more (rest e is)

-- ---- a list beside numbers

pub zip_range : {Y : Type 0} (f : List ℕ → List ℕ → Y) (lists : List (List ℕ)) (v : ℕ → List ℕ) (t : List ℕ → List ℕ) (s : ℕ) → ((k : ℕ) → k < length lists → v (s + k) ≡ t (get_or lists k []))
    → map (λ (p : List ℕ × List ℕ). f p.0 p.1) (zip lists (map v (range_with_len s (length lists)))) ≡ map (λ us. f us (t us)) lists
zip_range f [] v t s h = refl
zip_range {Y} f (us ∷ lists) v t s h =
    (λ i. f us (((let e : s ≡ s + 0 = omega arith in ap v e) ∙ h 0 (omega arith)) i)
    ∷ zip_range f lists v t (s + 1) (λ k l. (let e : s + 1 + k ≡ s + suc k = omega arith in ap v e) ∙ h (suc k) (omega arith)) i)

-- Keys of the nodes of a range, and keys in order.
use Rattle.std.proofs.Common.{◌≡◌, ℕ, zero, suc, ◌+◌, ◌-◌, ◌≤◌, Bool, cond, eqb, true, false, List, [], ◌∷◌, ◌++◌, map, Contains, sym, ap, subst, ◌∙◌, inl, inr, arith, append-nil}
use Rattle.std.specs.Ordering.{nat_cmp}
use Rattle.std.specs.List.{dedup, filter, range_with_len}
use Rattle.std.specs.List.Sorted.{IsPermutation, IsSorted}
use Rattle.std.proofs.lemmas.List.{map-append}
use Rattle.std.proofs.lemmas.List.Elements.{filter-append}
use Rattle.std.proofs.lemmas.List.Kept.{Contains-dedup_nat, Contains-from_dedup}
use Rattle.std.proofs.lemmas.List.Sorted.{Contains-permutation, IsPermutation-sym}
use Rattle.std.proofs.lemmas.Map.Keys.{IsStrictlyIncreasing-dedup}
use Rattle.dwz_model.specs.Lists.{In}
use Rattle.dwz_model.proofs.ListFacts.{numbers_more}
use Rattle.dwz_check_rows.specs.Keys.{IsInOrder}
use Rattle.dwz_check_rows.specs.UnitRows.{numbers_between}

-- ---- ranges

one_more : (a n : ℕ) → a ≤ n → numbers_between a (n + 1) ≡ numbers_between a n ++ n ∷ []
one_more a n l =
    let more : n + 1 - a ≡ suc (n - a) = omega arith in
    let last : a + (n - a) ≡ n = omega arith in
    ap (range_with_len a) more ∙ (numbers_more a (n - a) ∙ ap (λ k. range_with_len a (n - a) ++ k ∷ []) last)

pub nothing_yet : {X : Type 0} (f : ℕ → X) (a : ℕ) → map f (numbers_between a a) ≡ []
nothing_yet f a = let none : a - a ≡ 0 = omega arith in ap (λ k. map f (range_with_len a k)) none

pub pushed : {X : Type 0} (f : ℕ → X) (a n : ℕ) (old new : List X) → a ≤ n → old ≡ map f (numbers_between a n) → new ≡ old ++ f n ∷ [] → new ≡ map f (numbers_between a (n + 1))
pushed f a n old new l is push =
    push ∙ (ap (λ xs. xs ++ f n ∷ []) is ∙ (sym (map-append f (numbers_between a n) (n ∷ [])) ∙ ap (map f) (sym (one_more a n l))))

filtered_more : (p : ℕ → Bool) (a n : ℕ) (b : Bool) → a ≤ n → p n ≡ b → filter p (numbers_between a (n + 1)) ≡ filter p (numbers_between a n) ++ cond b (n ∷ []) []
filtered_more p a n b l is =
    ap (filter p) (one_more a n l) ∙ (filter-append p (numbers_between a n) (n ∷ []) ∙ ap (λ c. filter p (numbers_between a n) ++ cond c (n ∷ []) []) is)

pub kept : {X : Type 0} (f : ℕ → X) (p : ℕ → Bool) (a n : ℕ) (old new : List X) → a ≤ n → p n ≡ true → old ≡ map f (filter p (numbers_between a n)) → new ≡ old ++ f n ∷ []
    → new ≡ map f (filter p (numbers_between a (n + 1)))
kept f p a n old new l is was push =
    push ∙ (ap (λ xs. xs ++ f n ∷ []) was ∙ (sym (map-append f (filter p (numbers_between a n)) (n ∷ [])) ∙ ap (map f) (sym (filtered_more p a n true l is))))

pub passed : {X : Type 0} (f : ℕ → X) (p : ℕ → Bool) (a n : ℕ) (old new : List X) → a ≤ n → p n ≡ false → old ≡ map f (filter p (numbers_between a n)) → new ≡ old
    → new ≡ map f (filter p (numbers_between a (n + 1)))
passed f p a n old new l is was same =
    same ∙ (was ∙ ap (map f) (sym (filtered_more p a n false l is ∙ append-nil (filter p (numbers_between a n)))))

-- ---- in order

pub in_contains : {X : Type 0} (xs : List X) (x : X) → In x xs → Contains xs x
in_contains [] x is = absurd is
in_contains (y ∷ xs) x (inl e) = (0, omega arith, e)
in_contains (y ∷ xs) x (inr later) = let r = in_contains xs x later in let lt = r.1 in (suc r.0, omega arith, r.2)

pub contains_in : {X : Type 0} (xs : List X) (x : X) → Contains xs x → In x xs
contains_in [] x c = absurd (let lt = c.1 in omega arith)
contains_in (y ∷ xs) x (zero, lt, e) = inl e
contains_in (y ∷ xs) x (suc k, lt, e) = inr (contains_in xs x (k, omega arith, e))

pub in_order : (old sorted new : List ℕ) → IsPermutation old sorted → IsSorted nat_cmp sorted → new ≡ dedup eqb sorted → IsInOrder old new
in_order old sorted new moved is once =
    subst (λ (xs : List ℕ). IsInOrder old xs) (sym once)
    (record {
      rises = IsStrictlyIncreasing-dedup sorted is;
      same = λ x. (
        λ h. contains_in (dedup eqb sorted) x (Contains-dedup_nat sorted x (Contains-permutation old sorted x moved (in_contains old x h))),
        λ h. contains_in old x (Contains-permutation sorted old x (IsPermutation-sym old sorted moved) (Contains-from_dedup _ sorted x (in_contains (dedup eqb sorted) x h))),
      );
    })

-- ---- numbers that pass a test

pub kept_number : (p : ℕ → Bool) (a n : ℕ) (old new : List ℕ) → a ≤ n → p n ≡ true → old ≡ filter p (numbers_between a n) → new ≡ old ++ n ∷ [] → new ≡ filter p (numbers_between a (n + 1))
kept_number p a n old new l is was push = push ∙ (ap (λ xs. xs ++ n ∷ []) was ∙ sym (filtered_more p a n true l is))

pub passed_number : (p : ℕ → Bool) (a n : ℕ) (old new : List ℕ) → a ≤ n → p n ≡ false → old ≡ filter p (numbers_between a n) → new ≡ old → new ≡ filter p (numbers_between a (n + 1))
passed_number p a n old new l is was same = same ∙ (was ∙ sym (filtered_more p a n false l is ∙ append-nil (filter p (numbers_between a n))))

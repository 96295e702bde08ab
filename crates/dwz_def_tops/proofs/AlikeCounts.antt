-- What only grows comes to rest: counts over a list.
use Rattle.std.proofs.Common.{◌≡◌, ◌⊎◌, ℕ, zero, suc, ◌+◌, ◌-◌, ◌<◌, ◌≤◌, Bool, true, false, List, [], ◌∷◌, length, refl, sym, ap, subst, ◌∙◌, inl, inr, ⊎_elim, arith}
use Rattle.std.proofs.lemmas.Bool.{cases_lt, false≢true, or_cases}
use Rattle.std.specs.List.{list_any}
use Rattle.dwz_def_reading.specs.Lists.{In}
use Rattle.dwz_def_tops.specs.Deciding.{Test}
use Rattle.dwz_def_reading.proofs.Members.{any_true}

-- ---- an element that passes

pub any_of : {X : Type 0} (test : X → Bool) (xs : List X) → list_any test xs ≡ true → (x : X) × In x xs × (test x ≡ true)
any_of test [] e = absurd (false≢true e)
any_of test (x ∷ xs) e = ⊎_elim
    (λ (h : test x ≡ true). (x, inl refl, h))
    (λ (h : list_any test xs ≡ true). let r = any_of test xs h in (r.0, inr r.1, r.2))
    (or_cases (test x) (list_any test xs) e)

-- ---- a number that can't pass n rises n times at most

rises : (f : ℕ → ℕ) (k : ℕ) → ((j : ℕ) × (j < k) × (f (suc j) ≤ f j)) ⊎ (k ≤ f k)
rises f zero = inr (omega arith)
rises f (suc k) = ⊎_elim
    (λ (r : (j : ℕ) × (j < k) × (f (suc j) ≤ f j)). inl (r.0, (let h = r.1 in omega arith), r.2))
    (λ (h : k ≤ f k). ⊎_elim (λ (more : f k < f (suc k)). inr (omega arith)) (λ (rest : f (suc k) ≤ f k). inl (k, omega arith, rest)) (cases_lt (f k) (f (suc k))))
    (rises f k)

pub settles : (f : ℕ → ℕ) (n : ℕ) → ((k : ℕ) → f k ≤ n) → (j : ℕ) × (j ≤ n) × (f (suc j) ≤ f j)
settles f n most = ⊎_elim
    (λ (r : (j : ℕ) × (j < suc n) × (f (suc j) ≤ f j)). (r.0, (let h = r.1 in omega arith), r.2))
    (λ (h : suc n ≤ f (suc n)). let m = most (suc n) in absurd (omega arith))
    (rises f (suc n))

-- ---- how many pass a test

one_if : Bool → ℕ
one_if true = 1
one_if false = 0

one_most : (b : Bool) → one_if b ≤ 1
unfolding one_if
one_most true = omega arith
one_most false = omega arith

one_less : (a b : Bool) → (a ≡ true → b ≡ true) → one_if a ≤ one_if b
unfolding one_if
one_less true true h = omega arith
one_less true false h = absurd (false≢true (h refl))
one_less false b h = omega arith

one_same : (a b : Bool) → one_if b ≤ one_if a → b ≡ true → a ≡ true
unfolding one_if
one_same true b h e = refl
one_same false true h e = absurd (omega arith)
one_same false false h e = e

pub passing : {X : Type 0} → (X → Bool) → List X → ℕ
passing test [] = 0
passing test (x ∷ xs) = one_if (test x) + passing test xs

pub passing_most : {X : Type 0} (test : X → Bool) (xs : List X) → passing test xs ≤ length xs
unfolding passing
passing_most test [] = omega arith
passing_most test (x ∷ xs) = let h = one_most (test x) in let rest = passing_most test xs in omega arith

pub passing_less : {X : Type 0} (p q : X → Bool) (xs : List X) → ((x : X) → In x xs → p x ≡ true → q x ≡ true) → passing p xs ≤ passing q xs
unfolding passing
passing_less p q [] h = omega arith
passing_less p q (x ∷ xs) h = let first = one_less (p x) (q x) (h x (inl refl)) in let rest = passing_less p q xs (λ y i. h y (inr i)) in omega arith

-- where no more pass the wider test, the same do
pub passing_same : {X : Type 0} (p q : X → Bool) (xs : List X) → ((x : X) → In x xs → p x ≡ true → q x ≡ true) → passing q xs ≤ passing p xs → (x : X) → In x xs → q x ≡ true → p x ≡ true
unfolding passing
passing_same p q [] h le x i e = absurd i
passing_same p q (y ∷ xs) h le x (inl same) e =
    let rest = passing_less p q xs (λ z i. h z (inr i)) in
    let first : one_if (q y) ≤ one_if (p y) = omega arith in
    ap p (sym same) ∙ one_same (p y) (q y) first (ap q same ∙ e)
passing_same p q (y ∷ xs) h le x (inr i) e =
    let first = one_less (p y) (q y) (h y (inl refl)) in
    passing_same p q xs (λ z j. h z (inr j)) (omega arith) x i e

-- ---- how many classes there are

-- the test is an equivalence on the list
pub record IsEquivalence (same : Test) (xs : List ℕ) : Type 0 where
  pub self : (x : ℕ) → In x xs → same x x ≡ true
  pub turns : (x y : ℕ) → In x xs → In y xs → same x y ≡ true → same y x ≡ true
  pub joins : (x y z : ℕ) → In x xs → In y xs → In z xs → same x y ≡ true → same y z ≡ true → same x z ≡ true

on_rest : (same : Test) (x : ℕ) (xs : List ℕ) → IsEquivalence same (x ∷ xs) → IsEquivalence same xs
on_rest same x xs is = record {
  self = λ y i. is.self y (inr i);
  turns = λ y z i j. is.turns y z (inr i) (inr j);
  joins = λ y z w i j k. is.joins y z w (inr i) (inr j) (inr k);
}

-- the last of each class counts
pub classes : Test → List ℕ → ℕ
classes same [] = 0
classes same (x ∷ xs) = (1 - one_if (list_any (same x) xs)) + classes same xs

pub classes_most : (same : Test) (xs : List ℕ) → classes same xs ≤ length xs
unfolding classes
classes_most same [] = omega arith
classes_most same (x ∷ xs) = let rest = classes_most same xs in omega arith

-- what the one test finds equal so does the other
abbrev pub Finer : Test → Test → List ℕ → Type 0
Finer fine same xs = (x y : ℕ) → In x xs → In y xs → fine x y ≡ true → same x y ≡ true

any_within : (fine same : Test) (x : ℕ) (xs : List ℕ) → Finer fine same (x ∷ xs) → list_any (fine x) xs ≡ true → list_any (same x) xs ≡ true
any_within fine same x xs h e =
    let r = any_of (fine x) xs e in
    any_true (same x) r.0 xs r.1 (h x r.0 (inl refl) (inr r.1) r.2)

pub classes_less : (fine same : Test) (xs : List ℕ) → Finer fine same xs → classes same xs ≤ classes fine xs
unfolding classes
classes_less fine same [] h = omega arith
classes_less fine same (x ∷ xs) h =
    let first = one_less (list_any (fine x) xs) (list_any (same x) xs) (any_within fine same x xs h) in
    let rest = classes_less fine same xs (λ y z i j. h y z (inr i) (inr j)) in
    omega arith

-- the first element, and the others
with_first : (fine same : Test) (x : ℕ) (xs : List ℕ) → IsEquivalence fine (x ∷ xs) → IsEquivalence same (x ∷ xs) → ((z : ℕ) → In z xs → same x z ≡ true → fine x z ≡ true) → Finer same fine xs
    → Finer same fine (x ∷ xs)
with_first fine same x xs f s first rest y z (inl p) (inl q) e = f.joins y x z (inl p) (inl refl) (inl q) (subst (λ (w : ℕ). fine w x ≡ true) p (f.self x (inl refl)))
    (subst (λ (w : ℕ). fine x w ≡ true) q (f.self x (inl refl)))
with_first fine same x xs f s first rest y z (inl p) (inr j) e = subst (λ (w : ℕ). fine w z ≡ true) p (first z j (subst (λ (w : ℕ). same w z ≡ true) (sym p) e))
with_first fine same x xs f s first rest y z (inr i) (inl q) e =
    let turned : same x y ≡ true = subst (λ (w : ℕ). same w y ≡ true) (sym q) (s.turns y z (inr i) (inl q) e) in
    subst (λ (w : ℕ). fine y w ≡ true) q (f.turns x y (inl refl) (inr i) (first y i turned))
with_first fine same x xs f s first rest y z (inr i) (inr j) e = rest y z i j e

-- where the finer test has no more classes, the two find the same equal
pub classes_same : (fine same : Test) (xs : List ℕ) → Finer fine same xs → IsEquivalence fine xs → IsEquivalence same xs → classes fine xs ≤ classes same xs → Finer same fine xs
unfolding classes
classes_same fine same [] h f s le y z i j e = absurd i
classes_same fine same (x ∷ xs) h f s le y z i j e =
    let on : Finer fine same xs = λ y z i j. h y z (inr i) (inr j) in
    let first = one_less (list_any (fine x) xs) (list_any (same x) xs) (any_within fine same x xs h) in
    let more = one_most (list_any (same x) xs) in
    let rest = classes_less fine same xs on in
    let again = classes_same fine same xs on (on_rest fine x xs f) (on_rest same x xs s) (omega arith) in
    let flags : one_if (list_any (same x) xs) ≤ one_if (list_any (fine x) xs) = omega arith in
    let at_first : (z : ℕ) → In z xs → same x z ≡ true → fine x z ≡ true = (λ z j e. (
    let r = any_of (fine x) xs (one_same (list_any (fine x) xs) (list_any (same x) xs) flags (any_true (same x) z xs j e)) in
    let w = r.0 in
    let k = r.1 in
    let near = h x w (inl refl) (inr k) r.2 in
    let other = again w z k j (s.joins w x z (inr k) (inl refl) (inr j) (s.turns x w (inl refl) (inr k) near) e) in
    f.joins x w z (inl refl) (inr k) (inr j) r.2 other)) in
    with_first fine same x xs f s at_first again y z i j e

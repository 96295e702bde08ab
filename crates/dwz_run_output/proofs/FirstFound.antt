-- What is found first: of two, along lists that are joined, and of files by their numbers.
use Rattle.std.proofs.Common.{◌≡◌, ℕ, zero, suc, ◌+◌, ◌<◌, ◌≤◌, List, [], ◌∷◌, ◌++◌, Option, Some, None, subst, inl, inr, arith}
use Rattle.std.specs.List.{range_with_len}
use Rattle.std.specs.Option.{option_or}
use Rattle.dwz_model.specs.declared.fault.Fault.{Fault}
use Rattle.dwz_model.specs.declared.fault.Refusal.{Refusal}
use Rattle.dwz_def_output.specs.Refusals.{InFile}
use Rattle.dwz_def_reading.specs.FirstOf.{OfFirst, OrElse}
use Rattle.dwz_def_output.proofs.FreeLemmas.{Nothing, not_first, not_then}
use Rattle.dwz_def_output.specs.NewFiles.{IsFound}

-- ---- along joined lists

into : {X Y : Type 0} (Has : Y → X → Type 0) (xs ys : List Y) (x : X) → OfFirst Has xs x → OfFirst Has (xs ++ ys) x
into Has [] ys x has = absurd has
into Has (z ∷ xs) ys x (inl has) = inl has
into Has (z ∷ xs) ys x (inr later) = inr (later.0, into Has xs ys x later.1)

behind : {X Y : Type 0} (Has : Y → X → Type 0) (xs ys : List Y) → Nothing (OfFirst Has xs) → (x : X) → OfFirst Has ys x → OfFirst Has (xs ++ ys) x
behind Has [] ys none x has = has
behind Has (z ∷ xs) ys none x has =
    inr (not_first (Has z) (OfFirst Has xs) none, behind Has xs ys (not_then (Has z) (OfFirst Has xs) none) x has)

in_neither : {X Y : Type 0} (Has : Y → X → Type 0) (xs ys : List Y) → Nothing (OfFirst Has xs) → Nothing (OfFirst Has ys) → Nothing (OfFirst Has (xs ++ ys))
in_neither Has [] ys none other = other
in_neither Has (z ∷ xs) ys none other = λ x has. elim has [
  | inl here ↦ none x (inl here)
  | inr later ↦ in_neither Has xs ys (not_then (Has z) (OfFirst Has xs) none) other x later.1
]

-- what is found along the one, or else along the other
pub found_joined : {X Y : Type 0} (Has : Y → X → Type 0) (xs ys : List Y) (a b : Option X) → IsFound (OfFirst Has xs) a → IsFound (OfFirst Has ys) b
    → IsFound (OfFirst Has (xs ++ ys)) (option_or a b)
found_joined Has xs ys (Some x) b first second = into Has xs ys x first
found_joined Has xs ys None (Some x) first second = behind Has xs ys first x second
found_joined Has xs ys None None first second = in_neither Has xs ys first second

-- ---- of files by their numbers

-- none of the files from a number on, of which there are so many, has a fault
abbrev pub NoneFrom : (ℕ → Fault → Type 0) → ℕ → ℕ → Type 0
NoneFrom Has start count = (file : ℕ) → start ≤ file → file < start + count → Nothing (Has file)

-- where none before a file has one, that of the file is the first
first_from : (Has : ℕ → Fault → Type 0) (count start k : ℕ) (q : Refusal) → NoneFrom Has start k → k < count → InFile Has (start + k) q
    → OfFirst (InFile Has) (range_with_len start count) q
first_from Has zero start k q none less has = absurd (omega arith)
first_from Has (suc count) start zero q none less has =
    let same : start + 0 ≡ start = omega arith in inl (subst (λ (file : ℕ). InFile Has file q) same has)
first_from Has (suc count) start (suc k) q none less has =
    let same : start + suc k ≡ (start + 1) + k = omega arith in
    inr (
      λ p here. none start (omega arith) (omega arith) here.0 here.1,
      first_from Has count (start + 1) k q (λ file low high. none file (omega arith) (omega arith)) (omega arith) (subst (λ (file : ℕ). InFile Has file q) same has),
    )

pub first_found : (Has : ℕ → Fault → Type 0) (count file : ℕ) (q : Refusal) → ((k : ℕ) → k < file → Nothing (Has k)) → file < count → InFile Has file q
    → OfFirst (InFile Has) (range_with_len 0 count) q
first_found Has count file q none less has =
    let same : file ≡ 0 + file = omega arith in
    first_from Has count 0 file q (λ k low high. none k (omega arith)) less (subst (λ (k : ℕ). InFile Has k q) same has)

none_from : (Has : ℕ → Fault → Type 0) (count start : ℕ) → NoneFrom Has start count → Nothing (OfFirst (InFile Has) (range_with_len start count))
none_from Has zero start none q has = has
none_from Has (suc count) start none q (inl here) = none start (omega arith) (omega arith) here.0 here.1
none_from Has (suc count) start none q (inr later) = none_from Has count (start + 1) (λ file low high. none file (omega arith) (omega arith)) q later.1

-- where none of so many files has a fault there is no refusal
pub none_found : (Has : ℕ → Fault → Type 0) (count : ℕ) → ((k : ℕ) → k < count → Nothing (Has k)) → Nothing (OfFirst (InFile Has) (range_with_len 0 count))
none_found Has count none = none_from Has count 0 (λ k low high. none k (omega arith))

-- ---- of two

-- the one that is found, or else the other
pub found_else : {X : Type 0} (First Then : X → Type 0) (a b : Option X) → IsFound First a → IsFound Then b → IsFound (OrElse First Then) (option_or a b)
found_else First Then (Some x) b first second = inl first
found_else First Then None (Some x) first second = inr (first, second)
found_else First Then None None first second = λ x has. elim has [ inl here ↦ first x here | inr later ↦ second x later.1 ]

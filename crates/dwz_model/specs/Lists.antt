-- Relations on lists.
use Rattle.std.specs.Prelude.{◌≡◌, ◌⊎◌, ℕ, suc, ◌<◌, List, [], ◌∷◌}

-- x is one of them
abbrev pub In : {X : Type 0} → X → List X → Type 0
In x [] = ⊥
In x (y ∷ ys) = (y ≡ x) ⊎ In x ys

-- P holds of each of them
abbrev pub Each : {X : Type 0} → (X → Type 0) → List X → Type 0
Each P [] = Unit {0}
Each P (x ∷ xs) = P x × Each P xs

-- R holds of each element and each behind it
abbrev pub EachPair : {X : Type 0} → (X → X → Type 0) → List X → Type 0
EachPair R [] = Unit {0}
EachPair R (x ∷ xs) = Each (R x) xs × EachPair R xs

-- each number is less than those behind it
abbrev pub Rising : List ℕ → Type 0
Rising ns = EachPair (λ m n. m < n) ns

-- x is the n-th of them, where the first is the s-th
abbrev pub Nth : {X : Type 0} → ℕ → List X → ℕ → X → Type 0
Nth s [] n x = ⊥
Nth s (y ∷ ys) n x = ((s ≡ n) × (y ≡ x)) ⊎ Nth (suc s) ys n x

-- each is none of those behind it
abbrev pub NoneTwice : {K : Type 0} → List K → Type 0
NoneTwice [] = Unit {0}
NoneTwice (k ∷ ks) = (In k ks → ⊥) × NoneTwice ks

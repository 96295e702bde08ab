-- From a whole round to numbers of classes.
use Rattle.std.specs.Prelude.{◌≡◌, ℕ, suc, ◌<◌, ◌≤◌, List, [], ◌∷◌, length, slice_index}
use Rattle.dwz_groups.specs.declared.groups.Edge.{Edge}
use Rattle.dwz_nodes.specs.Among.{Among}

-- each class is a node of its own, and none of its nodes is less
abbrev pub IsLed : List ℕ → Type 0
IsLed classes = (a : ℕ) → a < length classes → (slice_index classes a ≤ a)
    × (slice_index classes (slice_index classes a) ≡ slice_index classes a)

-- the first n nodes have numbers below count, the same ones exactly for one class
pub record AreNumbered (classes : List ℕ) (n count : ℕ) (numbers : List ℕ) : Type 0 where
  pub len : length numbers ≡ n
  pub few : count ≤ n
  pub below : (a : ℕ) → a < n → slice_index numbers a < count
  pub same : (a b : ℕ) → a < n → b < n → slice_index classes a ≡ slice_index classes b → slice_index numbers a ≡ slice_index numbers b
  pub apart : (a b : ℕ) → a < n → b < n → slice_index numbers a ≡ slice_index numbers b → slice_index classes a ≡ slice_index classes b

-- each node under its number, where the first node has that one
unfoldable pub number_pairs : ℕ → List ℕ → List Edge
number_pairs a [] = []
number_pairs a (n ∷ numbers) = record { key = n; value = a } ∷ number_pairs (suc a) numbers

-- those of the first n nodes whose next class isn't that beside their class
pub record AreMoved (classes next largest : List ℕ) (n : ℕ) (pending : List ℕ) : Type 0 where
  pub from : (a : ℕ) → Among pending a → (a < n) × (¬ (slice_index next a ≡ slice_index largest (slice_index classes a)))
  pub all : (a : ℕ) → a < n → ¬ (slice_index next a ≡ slice_index largest (slice_index classes a)) → Among pending a

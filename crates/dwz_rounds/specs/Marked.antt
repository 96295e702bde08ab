-- Numbers that are marked, and the list of them.
use Rattle.std.specs.Prelude.{◌≡◌, ℕ, ◌<◌, ◌⊎◌, Bool, true, List, length, slice_index_or}
use Rattle.dwz_nodes.specs.Among.{Among}

-- whether a is marked
abbrev pub IsMarked : List Bool → ℕ → Type 0
IsMarked marks a = slice_index_or marks a true ≡ true

-- the list has just the numbers that are marked
pub record AreMarked (marks : List Bool) (list : List ℕ) : Type 0 where
  pub inside : (a : ℕ) → Among list a → (a < length marks) × IsMarked marks a
  pub all : (a : ℕ) → a < length marks → IsMarked marks a → Among list a

-- the new list has the old one's numbers and those of another list
pub record ArePut (old put new : List ℕ) : Type 0 where
  pub from : (a : ℕ) → Among new a → Among old a ⊎ Among put a
  pub kept : (a : ℕ) → Among old a → Among new a
  pub all : (a : ℕ) → Among put a → Among new a

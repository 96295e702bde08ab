-- Sections that are placed one after another.
use Rattle.std.specs.Prelude.{◌≡◌, ℕ, ◌<◌, ◌≤◌, List, ◌++◌, Option, Some, None, length, get_or}
use Rattle.dwz_def_reading.specs.declared.elf.Moved.{Moved}
use Rattle.dwz_def_reading.specs.ElfLayout.{moved_in, placed_end, placed_from, too_large}
use Rattle.dwz_def_reading.specs.ElfReading.{ElfView}
use Rattle.dwz_elf.specs.declared.layout.Places.{Places}

-- some sections have their places and end there, and the others are to follow
pub record IsPlacedUpTo (e : ElfView) (contents : ℕ → List ℕ) (keep : ℕ) (order : List (ℕ × ℕ)) (end : ℕ) (placed : List Moved)
    (left : List (ℕ × ℕ)) : Type 0 where
  pub places : placed ++ placed_from e contents end left ≡ placed_from e contents keep order
  pub last : placed_end end (placed_from e contents end left) ≡ placed_end keep (placed_from e contents keep order)
  pub small : end < too_large

-- the places, unless they go too far
abbrev pub ArePlaced : ElfView → (ℕ → List ℕ) → ℕ → List (ℕ × ℕ) → Option Places → Type 0
ArePlaced e contents keep order None = too_large ≤ placed_end keep (placed_from e contents keep order)
ArePlaced e contents keep order (Some p) =
    (p.moved.items ≡ placed_from e contents keep order) × (p.end ≡ placed_end keep (placed_from e contents keep order))
    × (p.end < too_large)

-- for each index where the section is
pub record AreByIndex (count : ℕ) (moved : List Moved) (places : List (Option Moved)) : Type 0 where
  pub len : length places ≡ count
  pub each : (k : ℕ) → k < count → get_or places k None ≡ moved_in moved k

-- What pruning gives.
use Rattle.std.specs.Prelude.{◌≡◌, ℕ, List, length, position, slice_index, Contains, Option, SomeIff, ◌==◌}
use Rattle.std.specs.List.Sorted.{IsStrictlyIncreasing}
use Rattle.std.specs.Option.{option_map}
use Rattle.dwz_def_reading.specs.Pruning.{new_number, pruned}

-- the new bytes; the uses; and the new number of each use, at its place
pub record Pruning : Type 0 where
  pub bytes : List ℕ
  pub uses : List ℕ
  pub numbers : List ℕ

abbrev pub pruning : List ℕ → List ℕ → List ℕ → Pruning
pruning bytes uses numbers = record { bytes = bytes; uses = uses; numbers = numbers }

-- the new number of a use
abbrev pub moved_in : Pruning → ℕ → Option ℕ
moved_in p offset = option_map (λ k. slice_index p.numbers k) (position (λ u. u == offset) p.uses)

-- it is what pruning a section by these uses gives: the new section, and new numbers exactly for the uses
pub record IsPruned (section uses : List ℕ) (p : Pruning) : Type 0 where
  pub bytes : p.bytes ≡ pruned section uses
  pub moved : (offset : ℕ) → SomeIff (moved_in p offset) (Contains uses offset) (new_number section uses offset)

-- ---- inside

-- the uses ascend, and there is a number for each
pub record RisesAlong (uses numbers : List ℕ) : Type 0 where
  pub rises : IsStrictlyIncreasing uses
  pub long : length numbers ≡ length uses

-- The unit of entries of one unit that are in one top, or in none.
use Rattle.std.specs.Prelude.{◌≡◌, ℕ, ◌+◌, List, Some, slice_get}
use Rattle.dwz_plan.specs.Planned.{Planned}
use Rattle.dwz_layout_numbers.specs.declared.owners.Owned.{Owned}
use Rattle.dwz_layout_numbers.specs.Owners.{owner_by}

-- it is that of a file whose first unit has that number
abbrev pub IsOwned : Planned → List ℕ → List ℕ → ℕ → Owned → Type 0
IsOwned plan parts olds first o = (kept : ℕ) → slice_get olds (first + o.unit) ≡ Some kept → o.number ≡ owner_by plan parts kept o.top

-- The tops of units.
use Rattle.std.specs.Prelude.{◌≡◌, ℕ, ◌<◌, Bool, List, length, slice_index}
use Rattle.dwz_groups.specs.Spreading.{IsMarked}

-- the top may move, and is of that unit
pub record MovesIn (units : List ℕ) (movable : List Bool) (u t : ℕ) : Type 0 where
  pub there : t < length units
  pub unit : slice_index units t ≡ u
  pub moves : IsMarked movable t

-- What is known of the tops whose least alike ones are asked for.
use Rattle.std.specs.Prelude.{◌≡◌, ℕ, Bool, List, [], slice_index_or}
use Rattle.dwz_def_tops.specs.Alike.{Movable}
use Rattle.dwz_def_tops.specs.Deciding.{AreMovable}
use Rattle.dwz_def_tops.specs.Spots.{EntryName, FileUnit, Top, tops_of}
use Rattle.dwz_def_tops.specs.Targets.{targets_of}
use Rattle.dwz_def_reading.specs.Lists.{In}

-- of each top whether it may move, and of one that may the tops that its references go into
pub record ShowTargets (units : List (FileUnit EntryName)) (movable : List Bool) (targets : List (List ℕ)) : Type 0 where
  pub flags : AreMovable units movable
  pub are : (t : Top) → In t (tops_of units) → Movable units t.number → slice_index_or targets t.number [] ≡ targets_of t

use Rattle.std.proofs.Common.{◌≡◌, ◌++◌, ℕ, List, map, take}
use Rattle.dwz_def_check.specs.CrossLists.{numbered_units}
use Rattle.dwz_def_reading.specs.Documents.{DwUnit}
use Rattle.dwz_check_index.specs.declared.index.CrossStarts.{CrossStarts}
use Rattle.dwz_check_sides.specs.Says.{IsSide}
use Rattle.dwz_check_sides.specs.Units.{nodes_of}
use Rattle.dwz_check_sides.proofs.units.put_units.Given as goal

abbrev pub invariant-loop-n : goal.invariant-loop-n
invariant-loop-n l = (said : List (DwUnit ℕ)) (starts : CrossStarts) → IsSide l.side said starts
    → l.units.items ≡ l.fn.units.items ++ map (nodes_of l.before) (take l.n (numbered_units starts.top starts.lone said))

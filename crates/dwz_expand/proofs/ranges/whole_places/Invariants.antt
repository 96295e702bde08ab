use Rattle.std.proofs.Common.{◌≡◌, take}
use Rattle.dwz_def_reading.specs.Files.{unit_places}
use Rattle.dwz_unit.specs.Rows.{units_of}
use Rattle.dwz_expand.proofs.ranges.whole_places.Given as goal

abbrev pub invariant-loop-n : goal.invariant-loop-n
invariant-loop-n l = l.places.items ≡ unit_places (take l.n (units_of l.units))

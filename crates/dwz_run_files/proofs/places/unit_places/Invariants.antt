use Rattle.std.proofs.Common.{◌≡◌, take}
use Rattle.dwz_unit.specs.Rows.{units_of}
use Rattle.dwz_run_files.specs.Spots.{unit_places_from}
use Rattle.dwz_run_files.proofs.places.unit_places.Given as goal

abbrev pub invariant-loop-n : goal.invariant-loop-n
invariant-loop-n l = l.out.items ≡ unit_places_from l.start l.places (take l.n (units_of l.units))

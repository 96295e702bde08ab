use Rattle.std.proofs.Common.{◌≡◌, map, take}
use Rattle.dwz_unit.specs.Stops.{stops_of}
use Rattle.dwz_unit.proofs.stops.stop_rows.Given as goal

abbrev pub invariant-loop-number : goal.invariant-loop-number
invariant-loop-number l = l.rows ≡ map stops_of (take l.number l.decls)

use Rattle.std.proofs.Common.{◌≡◌, ◌++◌, ◌*◌, ◌≤◌, drop}
use Rattle.dwz_unit.specs.Stops.{stops_from, stops_of}
use Rattle.dwz_unit.proofs.stops.put_stops.Given as goal

abbrev pub invariant-loop-number : goal.invariant-loop-number
invariant-loop-number l = record {
  told : l.stops.items ++ stops_from (drop l.number l.pairs) l.number l.skip ≡ l.fn.stops.items ++ stops_of l.pairs;
  few : l.skip ≤ 16 * l.number;
}

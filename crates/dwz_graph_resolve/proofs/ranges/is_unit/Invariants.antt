use Rattle.std.proofs.Common.{◌-◌, length}
use Rattle.dwz_unit.specs.Rows.{units_of}
use Rattle.dwz_graph_resolve.proofs.SearchLemmas.{Searched}
use Rattle.dwz_graph_resolve.proofs.UnitStarts.{starts}
use Rattle.dwz_graph_resolve.proofs.ranges.is_unit.Given as goal

abbrev pub invariant-loop-low : goal.invariant-loop-low
invariant-loop-low l = Searched (starts (units_of l.units)) 0 (length (units_of l.units)) l.place l.low l.high

abbrev pub decreases-loop-low : goal.decreases-loop-low
decreases-loop-low l = l.high - l.low

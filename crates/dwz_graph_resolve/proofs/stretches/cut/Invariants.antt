use Rattle.std.proofs.Common.{◌-◌, ◌≤◌, length}
use Rattle.dwz_unit.specs.Rows.{units_of}
use Rattle.dwz_graph_resolve.proofs.stretches.cut.Given as goal

abbrev pub invariant-loop-low : goal.invariant-loop-low
invariant-loop-low l = (l.low ≤ l.high) × (l.high ≤ length (units_of l.units))

abbrev pub decreases-loop-low : goal.decreases-loop-low
decreases-loop-low l = l.high - l.low

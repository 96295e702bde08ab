use Rattle.std.proofs.Common.{◌-◌}
use Rattle.dwz_unit.specs.Rows.{units_of}
use Rattle.dwz_graph.specs.Resolved.{places}
use Rattle.dwz_graph.proofs.SearchLemmas.{Searched}
use Rattle.dwz_check_columns.proofs.paths.entry_at.Given as goal

abbrev pub invariant-loop-low : goal.invariant-loop-low
invariant-loop-low l = Searched (places (units_of l.units)) l.first l.end l.place l.low l.high

abbrev pub decreases-loop-low : goal.decreases-loop-low
decreases-loop-low l = l.high - l.low

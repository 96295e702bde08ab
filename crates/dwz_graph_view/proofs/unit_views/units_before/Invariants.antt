use Rattle.dwz_graph_view.proofs.UnitCounts.{Counts}
use Rattle.dwz_graph_view.proofs.unit_views.units_before.Given as goal

abbrev pub invariant-loop-number : goal.invariant-loop-number
invariant-loop-number l = Counts l.graph.given l.number l.count

use Rattle.dwz_graph_view.proofs.UnitCounts.{Left}
use Rattle.dwz_graph_view.proofs.unit_views.find_unit.Given as goal

abbrev pub invariant-loop-number : goal.invariant-loop-number
invariant-loop-number l = Left l.graph.given l.n l.number l.left

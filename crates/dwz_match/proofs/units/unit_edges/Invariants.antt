use Rattle.dwz_match.proofs.UnitFacts.{AreEdges}
use Rattle.dwz_match.proofs.units.unit_edges.Given as goal

abbrev pub invariant-loop-top : goal.invariant-loop-top
invariant-loop-top l = AreEdges l.units l.movable l.top l.edges.items

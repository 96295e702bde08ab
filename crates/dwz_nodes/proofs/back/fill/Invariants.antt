use Rattle.dwz_nodes.specs.Rooms.{IsFilled}
use Rattle.dwz_nodes.proofs.back.fill.Given as goal

abbrev pub invariant-loop-source : goal.invariant-loop-source
invariant-loop-source l = IsFilled l.nodes l.source l.spans l.row

use Rattle.dwz_nodes.specs.UseRooms.{AreNoted}
use Rattle.dwz_nodes.proofs.uses.fill.Given as goal

abbrev pub invariant-loop-source : goal.invariant-loop-source
invariant-loop-source l = AreNoted l.nodes l.source 0 l.spans l.row

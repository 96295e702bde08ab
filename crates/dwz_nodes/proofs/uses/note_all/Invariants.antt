use Rattle.dwz_nodes.specs.UseRooms.{AreNoted}
use Rattle.dwz_nodes.proofs.uses.note_all.Given as goal

abbrev pub invariant-loop-position : goal.invariant-loop-position
invariant-loop-position l = AreNoted l.nodes l.source l.position l.spans l.row

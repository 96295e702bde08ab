use Rattle.dwz_rounds.specs.Start.{AreMoved}
use Rattle.dwz_rounds.proofs.start.moved_nodes.Given as goal

abbrev pub invariant-loop-a : goal.invariant-loop-a
invariant-loop-a l = AreMoved l.classes l.next l.largest l.a l.pending.items

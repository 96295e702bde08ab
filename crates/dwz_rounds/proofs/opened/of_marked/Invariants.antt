use Rattle.dwz_rounds.specs.Open.{AreOfMarked}
use Rattle.dwz_rounds.proofs.opened.of_marked.Given as goal

abbrev pub invariant-loop-a : goal.invariant-loop-a
invariant-loop-a l = AreOfMarked l.classes l.marks l.live l.a-index l.kept.items

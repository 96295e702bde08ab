use Rattle.dwz_rounds.specs.Start.{AreNumbered}
use Rattle.dwz_rounds.proofs.start.number_classes.Given as goal

abbrev pub invariant-loop-a : goal.invariant-loop-a
invariant-loop-a l = AreNumbered l.classes l.a l.count l.numbers.items

use Rattle.dwz_takes.proofs.TakenFacts.{AreTakenFrom}
use Rattle.dwz_takes.proofs.taken.taken_between.Given as goal

abbrev pub invariant-loop-unit : goal.invariant-loop-unit
invariant-loop-unit l = AreTakenFrom l.rows l.from l.unit l.classes.items l.names.items l.parts.items l.lists.items

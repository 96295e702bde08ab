use Rattle.dwz_rounds.proofs.Starting.{AreListed}
use Rattle.dwz_rounds.proofs.start.members_of.Given as goal

abbrev pub invariant-loop-class : goal.invariant-loop-class
invariant-loop-class l = AreListed l.numbers l.class l.ranges.items l.members.items

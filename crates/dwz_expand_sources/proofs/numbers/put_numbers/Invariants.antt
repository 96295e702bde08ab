use Rattle.dwz_expand_sources.proofs.NumberSteps.{RangesGo}
use Rattle.dwz_expand_sources.proofs.numbers.put_numbers.Given as goal

abbrev pub invariant-loop-range : goal.invariant-loop-range
invariant-loop-range l = RangesGo l.ranges l.from l.initial.numbers.items l.numbers.items l.range-index l.at

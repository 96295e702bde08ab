use Rattle.dwz_expand_sources.proofs.NumberSteps.{UnitsNumbered}
use Rattle.dwz_expand_sources.proofs.numbers.CopyNumbers.of.Given as goal

abbrev pub invariant-loop-unit : goal.invariant-loop-unit
invariant-loop-unit l = UnitsNumbered l.sources.ranges l.sources.units l.roots.items l.numbers.items l.unit-index l.at

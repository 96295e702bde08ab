use Rattle.std.proofs.Common.{◌+◌, length}
use Rattle.dwz_groups.specs.Spreading.{unmarked}
use Rattle.dwz_groups.proofs.SpreadLemmas.{Spreading}
use Rattle.dwz_groups.proofs.marks.spread.Given as goal

abbrev pub invariant-work : goal.invariant-work
invariant-work l = Spreading l.sources l.seeds l.marks.items l.work.items

abbrev pub decreases-work : goal.decreases-work
decreases-work l = length l.work.items + unmarked l.marks.items

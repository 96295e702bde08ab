use Rattle.std.proofs.Common.{◌-◌, length}
use Rattle.dwz_lists.proofs.AskLemmas.{Walked}
use Rattle.dwz_lists.proofs.reading.walk_into.Given as goal

abbrev pub invariant-loop-next : goal.invariant-loop-next
invariant-loop-next l = Walked l.section l.at l.initial.operands.items l.operands.items l.place

abbrev pub decreases-loop-next : goal.decreases-loop-next
decreases-loop-next l = length l.section - l.place

use Rattle.std.proofs.Common.{◌-◌, length}
use Rattle.dwz_check_sides.proofs.SpaceSteps.{Numbered}
use Rattle.dwz_check_sides.proofs.names.space_lists.Given as goal

abbrev pub invariant-loop-known : goal.invariant-loop-known
invariant-loop-known l = Numbered l.side l.first l.fn.known l.known l.numbers.items

abbrev pub decreases-loop-known : goal.decreases-loop-known
decreases-loop-known l = l.count - length l.numbers.items

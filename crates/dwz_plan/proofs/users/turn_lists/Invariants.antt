use Rattle.std.proofs.Common.{◌≡◌, take}
use Rattle.dwz_plan.specs.Steps.{turned}
use Rattle.dwz_plan.proofs.users.turn_lists.Given as goal

abbrev pub invariant-loop-number : goal.invariant-loop-number
invariant-loop-number l = l.pairs.items ≡ turned 0 (take l.number l.lists)

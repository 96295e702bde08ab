use Rattle.std.proofs.Common.{◌≡◌, take}
use Rattle.dwz_plan.specs.Steps.{turned}
use Rattle.dwz_plan.proofs.over.takers.Given as goal

abbrev pub invariant-loop-unit : goal.invariant-loop-unit
invariant-loop-unit l = l.pairs.items ≡ turned 0 (take l.unit l.fixed.takes)

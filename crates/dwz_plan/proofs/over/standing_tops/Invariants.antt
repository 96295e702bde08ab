use Rattle.std.proofs.Common.{◌≡◌, take}
use Rattle.dwz_plan.specs.OverSteps.{standing_pairs}
use Rattle.dwz_plan.proofs.over.standing_tops.Given as goal

abbrev pub invariant-loop-top : goal.invariant-loop-top
invariant-loop-top l = l.pairs.items ≡ standing_pairs l.first 0 (take l.top l.rows)

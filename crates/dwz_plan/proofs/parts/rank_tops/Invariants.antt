use Rattle.std.proofs.Common.{◌≡◌, take}
use Rattle.dwz_plan.specs.Steps.{ranked}
use Rattle.dwz_plan.proofs.parts.rank_tops.Given as goal

abbrev pub invariant-loop-top : goal.invariant-loop-top
invariant-loop-top l = l.pairs.items ≡ ranked l.files_of_units 0 (take l.top l.users)

use Rattle.std.proofs.Common.{◌≡◌, map}
use Rattle.std.specs.List.{range_with_len}
use Rattle.dwz_plan.specs.Over.{standing_part}
use Rattle.dwz_plan.proofs.over.standing_parts.Given as goal

abbrev pub invariant-loop-number : goal.invariant-loop-number
invariant-loop-number l = l.parts.items ≡ map (standing_part l.tops l.fixed) (range_with_len 0 l.number)

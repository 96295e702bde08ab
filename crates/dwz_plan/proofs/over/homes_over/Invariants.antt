use Rattle.std.proofs.Common.{◌≡◌, map}
use Rattle.std.specs.List.{range_with_len}
use Rattle.dwz_plan.specs.Over.{place_over}
use Rattle.dwz_plan.proofs.over.homes_over.Given as goal

abbrev pub invariant-loop-top : goal.invariant-loop-top
invariant-loop-top l = l.all.items ≡ map (place_over l.tops l.fixed l.homes) (range_with_len 0 l.top)

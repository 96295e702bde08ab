use Rattle.std.proofs.Common.{◌≡◌, map}
use Rattle.std.specs.List.{range_with_len}
use Rattle.dwz_plan.specs.Over.{stand_over}
use Rattle.dwz_plan.proofs.over.stand_ins_over.Given as goal

abbrev pub invariant-loop-top : goal.invariant-loop-top
invariant-loop-top l = l.all.items ≡ map (stand_over l.fixed l.stand_ins) (range_with_len 0 l.top)

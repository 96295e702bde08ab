use Rattle.std.proofs.Common.{◌≡◌, take}
use Rattle.dwz_plan.specs.Over.{free_rows}
use Rattle.dwz_plan.proofs.over.free_rows.Given as goal

abbrev pub invariant-loop-top : goal.invariant-loop-top
invariant-loop-top l = l.free.items ≡ free_rows l.fixed 0 (take l.top l.rows)

use Rattle.std.proofs.Common.{arith}
use Rattle.dwz_plan.proofs.OverBounds.{count_low}
use Rattle.dwz_plan.proofs.over.free_tops.Goals as goal

pub first-own-requires : goal.first-own-requires
first-own-requires c = omega (arith, c.count_own.ensures, count_low c.own_units-units.result c.as_slice-rows.result.now)

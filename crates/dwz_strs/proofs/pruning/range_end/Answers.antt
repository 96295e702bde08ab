use Rattle.std.proofs.Common.{ap, arith}
use Rattle.dwz_def_reading.specs.Pruning.{ended_length, range_end}
use Rattle.dwz_strs.proofs.pruning.range_end.Goals as goal

pub returns-in-None : goal.returns-in-None
unfolding range_end
returns-in-None c = omega (arith, ap ended_length c.in-None.ensures)

pub returns-in-Some : goal.returns-in-Some
unfolding range_end
returns-in-Some c = omega (arith, ap ended_length c.in-Some.ensures)

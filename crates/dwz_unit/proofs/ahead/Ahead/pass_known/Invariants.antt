use Rattle.std.proofs.Common.{◌-◌, length}
use Rattle.dwz_unit.proofs.ahead.Ahead.pass_known.Given as goal

abbrev pub decreases-loop-offset : goal.decreases-loop-offset
decreases-loop-offset l = length l.self.offsets.items - l.self.done

use Rattle.std.proofs.Common.{◌-◌, ◌≤◌, length}
use Rattle.dwz_unit.proofs.stretches.cut.Given as goal

abbrev pub invariant-loop-at : goal.invariant-loop-at
invariant-loop-at l = l.at ≤ length l.info

abbrev pub decreases-loop-at : goal.decreases-loop-at
decreases-loop-at l = length l.info - l.at

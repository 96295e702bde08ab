use Rattle.std.proofs.Common.{◌≤◌}
use Rattle.dwz_rounds.proofs.start.count_moved.Given as goal

abbrev pub invariant-loop-a : goal.invariant-loop-a
invariant-loop-a l = l.count ≤ l.a

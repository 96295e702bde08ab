use Rattle.std.proofs.Common.{◌^◌, ◌-◌, ◌≤◌}
use Rattle.dwz_strs.proofs.hints.room_for.Given as goal

abbrev pub invariant-doubling : goal.invariant-doubling
invariant-doubling l = record { low : 16 ≤ l.room; high : l.room ≤ 2 ^ 33 }

abbrev pub decreases-doubling : goal.decreases-doubling
decreases-doubling l = 2 ^ 33 - l.room

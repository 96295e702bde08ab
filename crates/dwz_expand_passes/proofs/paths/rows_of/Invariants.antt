use Rattle.std.proofs.Common.{◌≤◌, ◌-◌, length, take}
use Rattle.dwz_expand_passes.specs.Paths.{AreRowsOf}
use Rattle.dwz_expand_passes.proofs.paths.rows_of.Given as goal

abbrev pub invariant-loop-rows : goal.invariant-loop-rows
invariant-loop-rows l = record { low : l.row ≤ length l.table.paths; rows : AreRowsOf (take l.row l.table.paths) l.rows }

abbrev pub decreases-loop-rows : goal.decreases-loop-rows
decreases-loop-rows l = length l.table.paths - l.row

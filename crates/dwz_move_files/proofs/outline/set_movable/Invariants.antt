use Rattle.std.proofs.Common.{◌≡◌, ◌++◌, drop, take}
use Rattle.dwz_move_files.specs.Rows.{with_flags}
use Rattle.dwz_move_files.proofs.outline.set_movable.Given as goal

abbrev pub invariant-loop-k : goal.invariant-loop-k
invariant-loop-k l = l.rows ≡ with_flags (take l.k l.fn.rows) (take l.k l.flags) ++ drop l.k l.fn.rows

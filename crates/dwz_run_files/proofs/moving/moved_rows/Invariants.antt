use Rattle.dwz_run_files.proofs.MoveSteps.{Moving}
use Rattle.dwz_run_files.proofs.moving.moved_rows.Given as goal

abbrev pub invariant-loop-row : goal.invariant-loop-row
invariant-loop-row l = Moving l.pruned l.fn.rows.items l.number l.row-iterator.rest.items l.moved.items

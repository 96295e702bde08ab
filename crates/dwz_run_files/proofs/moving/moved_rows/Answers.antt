use Rattle.std.proofs.Common.{arith}
use Rattle.dwz_run_files.proofs.MoveSteps.{moving_end}
use Rattle.dwz_run_files.proofs.moving.moved_rows.Goals as goal

pub returns : goal.returns
returns c =
    moving_end c.args.pruned.now c.args.rows.items c.loop-row.number c.loop-row.row-iterator.rest.items c.loop-row.moved.items
    (omega (arith, c.loop-row.row-iterator.rest.ok, c.in-None.ensures.steps.0)) c.loop-row.invariant

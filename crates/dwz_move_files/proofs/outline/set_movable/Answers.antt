use Rattle.std.proofs.Common.{◌∙◌, false, arith}
use Rattle.dwz_move_files.proofs.FlagSteps.{all_flagged, flag_more, none_flagged}
use Rattle.dwz_move_files.proofs.outline.set_movable.Goals as goal

pub loop-k-init : goal.loop-k-init
loop-k-init c = none_flagged c.args.rows.now c.args.flags.now

pub loop-k-preserved : goal.loop-k-preserved
loop-k-preserved c =
    flag_more c.args.rows.now c.args.flags.now c.loop-k.k (record { place = record { file = 0; offset = 0 }; unit = 0; weight = 0; movable = false; pinned = false }) false c.loop-k.rows (omega arith)
    (omega arith) c.loop-k.invariant

pub returns : goal.returns
returns c = c.loop-k.invariant ∙ all_flagged c.args.rows.now c.args.flags.now c.loop-k.k (omega arith) (omega arith)

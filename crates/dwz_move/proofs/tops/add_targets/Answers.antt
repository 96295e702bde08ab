use Rattle.dwz_move.proofs.TopSteps.{targets_more}
use Rattle.dwz_move.proofs.tops.add_targets.Goals as goal

pub loop-target-preserved : goal.loop-target-preserved
loop-target-preserved c = targets_more c.args.top c.args.into.now c.loop-target.target-index c.args.pairs.now.items c.loop-target.pairs.items c.add_target.new.pairs.items c.loop-target-test.true
    c.loop-target.invariant c.in_ok-add_target.ensures

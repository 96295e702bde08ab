use Rattle.dwz_label.specs.Labels.{target_label}
use Rattle.dwz_label_differences.proofs.PieceLemmas.{target_some}
use Rattle.dwz_label_differences.proofs.Numbers.{each_done, each_init, each_next}
use Rattle.dwz_label_differences.proofs.pieces.after_targets.Goals as goal

pub loop-init : goal.loop-init
loop-init c = each_init target_label c.args.label.now c.after_number-left.result.now c.after_number-left.ensures

pub loop-preserved : goal.loop-preserved
loop-preserved c =
    each_next target_label target_some c.args.label.now c.count_of-count.result c.count_of-count.ensures.is c.loop.left.now c.after_target-left.result.now c.loop.counter c.loop-test.true c.loop.invariant c.after_target-left.ensures

pub returns : goal.returns
returns c = each_done target_label target_some c.args.label.now c.count_of-count.result c.count_of-count.ensures.is c.loop.left.now c.loop.counter c.loop-test.false c.loop.invariant

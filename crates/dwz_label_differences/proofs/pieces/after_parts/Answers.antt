use Rattle.dwz_label.specs.Labels.{part_label}
use Rattle.dwz_label_differences.proofs.PieceLemmas.{part_some}
use Rattle.dwz_label_differences.proofs.Numbers.{each_done, each_init, each_next}
use Rattle.dwz_label_differences.proofs.pieces.after_parts.Goals as goal

pub loop-init : goal.loop-init
loop-init c = each_init part_label c.args.label.now c.after_number-left.result.now c.after_number-left.ensures

pub loop-preserved : goal.loop-preserved
loop-preserved c =
    each_next part_label part_some c.args.label.now c.count_of-count.result c.count_of-count.ensures.is c.loop.left.now c.after_part-left.result.now c.loop.counter c.loop-test.true c.loop.invariant c.after_part-left.ensures

pub returns : goal.returns
returns c = each_done part_label part_some c.args.label.now c.count_of-count.result c.count_of-count.ensures.is c.loop.left.now c.loop.counter c.loop-test.false c.loop.invariant

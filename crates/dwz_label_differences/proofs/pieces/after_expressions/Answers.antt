use Rattle.dwz_label.specs.Labels.{part_label, parts_label}
use Rattle.dwz_label_differences.proofs.PieceLemmas.{each_some}
use Rattle.dwz_label_differences.proofs.Numbers.{each_done, each_init, each_next}
use Rattle.dwz_label_differences.proofs.pieces.after_expressions.Goals as goal

pub loop-init : goal.loop-init
loop-init c = each_init parts_label c.args.label.now c.after_number-left.result.now c.after_number-left.ensures

pub loop-preserved : goal.loop-preserved
loop-preserved c =
    each_next parts_label (each_some part_label) c.args.label.now c.count_of-count.result c.count_of-count.ensures.is c.loop.left.now c.after_parts-left.result.now c.loop.counter c.loop-test.true c.loop.invariant c.after_parts-left.ensures

pub returns : goal.returns
returns c = each_done parts_label (each_some part_label) c.args.label.now c.count_of-count.result c.count_of-count.ensures.is c.loop.left.now c.loop.counter c.loop-test.false c.loop.invariant

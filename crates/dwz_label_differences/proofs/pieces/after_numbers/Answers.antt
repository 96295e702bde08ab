use Rattle.dwz_label.specs.Labels.{number}
use Rattle.dwz_label_differences.proofs.Numbers.{each_done, each_init, each_next, number_some}
use Rattle.dwz_label_differences.proofs.pieces.after_numbers.Goals as goal

pub loop-init : goal.loop-init
loop-init c = each_init number c.args.label.now c.after_number-left.result.now c.after_number-left.ensures

pub loop-preserved : goal.loop-preserved
loop-preserved c =
    each_next number number_some c.args.label.now c.count_of-count.result c.count_of-count.ensures.is c.loop.left.now c.after_number-left-in-loop.result.now c.loop.counter c.loop-test.true c.loop.invariant c.after_number-left-in-loop.ensures

pub returns : goal.returns
returns c = each_done number number_some c.args.label.now c.count_of-count.result c.count_of-count.ensures.is c.loop.left.now c.loop.counter c.loop-test.false c.loop.invariant

use Rattle.dwz_label.specs.Labels.{counted}
use Rattle.dwz_label_differences.proofs.PieceLemmas.{counted_some}
use Rattle.dwz_label_differences.proofs.Numbers.{each_done, each_init, each_next}
use Rattle.dwz_label_differences.proofs.what.after_names.Goals as goal

pub loop-init : goal.loop-init
loop-init c = each_init counted c.args.label.now c.after_number-left.result.now c.after_number-left.ensures

pub loop-preserved : goal.loop-preserved
loop-preserved c =
    each_next counted counted_some c.args.label.now c.count_of-count.result c.count_of-count.ensures.is c.loop.left.now c.after_counted-left.result.now c.loop.counter c.loop-test.true c.loop.invariant c.after_counted-left.ensures

pub returns : goal.returns
returns c = each_done counted counted_some c.args.label.now c.count_of-count.result c.count_of-count.ensures.is c.loop.left.now c.loop.counter c.loop-test.false c.loop.invariant

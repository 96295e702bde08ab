use Rattle.std.proofs.Common.{arith}
use Rattle.dwz_layout_numbers.proofs.NumberingLemmas.{leading_end, leading_next, leading_stop}
use Rattle.dwz_layout_numbers.proofs.numbers.count_leading.Goals as goal

pub returns-then-part-file : goal.returns-then-part-file
returns-then-part-file c = omega
    (arith, c.loop-part.invariant.found, leading_stop c.args.file c.args.partials.now c.loop-part.part-index c.part-item.result c.loop-part-test.true c.part-item.is c.if-part-file.true)

pub loop-part-preserved : goal.loop-part-preserved
loop-part-preserved c = record {
  same = omega (arith, c.loop-part.invariant.same);
  found = omega (arith, c.loop-part.invariant.found, leading_next c.args.file c.args.partials.now c.loop-part.part-index c.part-item.result c.loop-part-test.true c.part-item.is c.if-part-file.false);
}

pub returns : goal.returns
returns c = omega (arith, c.loop-part.invariant.found, leading_end c.args.file c.args.partials.now c.loop-part.part-index c.loop-part-test.false)

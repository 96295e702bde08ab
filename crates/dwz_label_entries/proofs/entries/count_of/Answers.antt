use Rattle.std.proofs.Common.{arith}
use Rattle.dwz_label_entries.proofs.KeptLemmas.{kept_done, kept_one, kept_other}
use Rattle.dwz_graph.proofs.ValueSteps.{no_pair}
use Rattle.dwz_label_entries.proofs.entries.count_of.Goals as goal
use Rattle.dwz_label_entries.proofs.entries.count_of.Goals.{then-pair-ne-DW_AT_SIBLING, else-pair-ne-DW_AT_SIBLING}

pub loop-pair-preserved : goal.loop-pair-preserved
loop-pair-preserved c = record {
  low = elim c.if-pair-ne-DW_AT_SIBLING.branch [
    | then-pair-ne-DW_AT_SIBLING w ↦ omega (arith, w.count-is, c.loop-pair.invariant.low)
    | else-pair-ne-DW_AT_SIBLING w ↦ omega (arith, w.count-is, c.loop-pair.invariant.low)
  ];
  sum = elim c.if-pair-ne-DW_AT_SIBLING.branch [
    | then-pair-ne-DW_AT_SIBLING w ↦ omega (arith, w.count-is, c.loop-pair.invariant.sum, kept_one c.args.pairs.now c.loop-pair.pair-index no_pair c.loop-pair-test.true w.if-pair-ne-DW_AT_SIBLING.true)
    | else-pair-ne-DW_AT_SIBLING w ↦ omega (arith, w.count-is, c.loop-pair.invariant.sum, kept_other c.args.pairs.now c.loop-pair.pair-index no_pair c.loop-pair-test.true w.if-pair-ne-DW_AT_SIBLING.false)
  ];
}

pub returns : goal.returns
returns c = omega (arith, c.loop-pair.invariant.sum, kept_done c.args.pairs.now c.loop-pair.pair-index c.loop-pair-test.false)

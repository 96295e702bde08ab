use Rattle.std.proofs.Common.{arith}
use Rattle.dwz_lists.proofs.PairLemmas.{pair_found}
use Rattle.dwz_lists.proofs.pair.pair_at.Goals as goal

pub returns : goal.returns
returns c =
    pair_found c.args.section.now c.args.at c.in-Some.second c.in-Some-few_end.third c.counted_at.result (omega (arith, c.requires, c.if-at-section.false))
    (omega (arith, c.if-section-at-ne-DW_LLE_OFFSET_PAIR.false)) c.in-Some.ensures c.in-Some-few_end.ensures c.counted_at.ensures

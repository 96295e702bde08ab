use Rattle.dwz_move.proofs.MarkLemmas.{asked_next}
use Rattle.dwz_move.proofs.marks.mark_operands.Goals as goal

pub loop-k-preserved : goal.loop-k-preserved
loop-k-preserved c = asked_next c.args.ulebs c.args.operands.now c.args.into.now c.loop-k.k _ c.args.marks.now.items c.loop-k.marks.items c.mark.new.marks.items c.is_asked.result c.at_or.result
    c.loop-k-test.true c.is_asked.ensures c.at_or.ensures c.loop-k.invariant c.mark.ensures

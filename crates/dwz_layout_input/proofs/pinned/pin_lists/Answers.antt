use Rattle.dwz_layout_input.proofs.NumberSteps.{lists_next}
use Rattle.dwz_layout_input.proofs.pinned.pin_lists.Goals as goal

pub loop-row-preserved : goal.loop-row-preserved
loop-row-preserved c = lists_next c.args.numbers.now c.args.rows.now c.loop-row.row-index _ c.loop-row-test.true c.number_at.result c.number_at.ensures c.args.flags.now.items c.loop-row.flags.items
    c.mark.new.marks.items c.loop-row.invariant c.mark.ensures

use Rattle.dwz_layout_input.proofs.NumberSteps.{refs_more}
use Rattle.dwz_layout_input.proofs.pinned.spaces_of.Goals as goal

pub loop-entry-preserved : goal.loop-entry-preserved
loop-entry-preserved c = refs_more c.args.numbers.now c.args.refs.now c.loop-entry.entry-index c.loop-entry.into.items c.push.new.self.items c.number_at.result c.loop-entry-test.true
    c.loop-entry.invariant c.number_at.ensures c.in_ok-push.ensures.items

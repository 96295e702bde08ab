use Rattle.dwz_layout_input.proofs.NumberSteps.{none_more}
use Rattle.dwz_layout_input.proofs.pinned.no_numbers.Goals as goal

pub loop-preserved : goal.loop-preserved
loop-preserved c = none_more c.loop.numbers.items c.push.new.self.items c.loop.counter c.loop.invariant c.in_ok-push.ensures.items

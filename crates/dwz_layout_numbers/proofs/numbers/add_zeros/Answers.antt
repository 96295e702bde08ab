use Rattle.dwz_layout_numbers.proofs.NumberingLemmas.{zeros_push}
use Rattle.dwz_layout_numbers.proofs.numbers.add_zeros.Goals as goal

pub loop-preserved : goal.loop-preserved
loop-preserved c = zeros_push c.args.numbers.now.items c.loop.numbers.items c.push.new.self.items c.loop.counter c.loop.invariant c.in_ok-push.ensures.items

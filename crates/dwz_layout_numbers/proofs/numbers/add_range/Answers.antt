use Rattle.dwz_layout_numbers.proofs.NumberingLemmas.{range_push}
use Rattle.dwz_layout_numbers.proofs.numbers.add_range.Goals as goal

pub loop-number-preserved : goal.loop-number-preserved
loop-number-preserved c = range_push c.args.numbers.now.items c.loop-number.numbers.items c.push.new.self.items c.args.first c.loop-number.number c.loop-number.auto.number
    c.loop-number.invariant c.in_ok-push.ensures.items

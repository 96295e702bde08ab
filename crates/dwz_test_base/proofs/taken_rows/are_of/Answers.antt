use Rattle.std.proofs.Common.{◌≡◌, get_or, sym, ◌∙◌, arith}
use Rattle.dwz_takes.proofs.MarkFacts.{each_next}
use Rattle.dwz_test_base.proofs.taken_rows.are_of.Goals as goal

pub loop-top-preserved : goal.loop-top-preserved
loop-top-preserved c = each_next (λ t. get_or c.args.units.now t 0 ≡ c.args.unit) c.args.tops.now c.loop-top.top-index (omega arith) c.loop-top.invariant (sym c.at_or.ensures ∙ c.if-at_or-unit.false)

use Rattle.dwz_abbrev.proofs.WriteLemmas.{sorted_more, sorted_none}
use Rattle.dwz_abbrev.proofs.writing.sort_decls.Goals as goal

pub loop-place-init : goal.loop-place-init
loop-place-init c = sorted_none c.args.decls.now c.new-order.result.entries c.new-order.ensures.empty

pub loop-place-preserved : goal.loop-place-preserved
loop-place-preserved c =
    sorted_more c.args.decls.now c.loop-place.place c.loop-place.order.entries c.insert.new.self.entries _ c.requires c.loop-place-test.true c.loop-place.auto.place c.index-decls-place.is
    c.loop-place.invariant.0 c.loop-place.invariant.1 c.in_ok-insert.ensures.entries

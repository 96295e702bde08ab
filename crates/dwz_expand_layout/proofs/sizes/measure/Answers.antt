use Rattle.dwz_expand_layout.proofs.ValueLemmas.{measured_more, measured_none, no_attr}
use Rattle.dwz_expand_layout.proofs.sizes.measure.Goals as goal

pub loop-attr-init : goal.loop-attr-init
loop-attr-init c = measured_none c.args.operands.now c.args.attrs.now c.clear.new.self.items c.clear.ensures.items

pub loop-attr-preserved : goal.loop-attr-preserved
loop-attr-preserved c =
    measured_more c.args.operands.now c.args.attrs.now c.loop-attr.attr-index no_attr c.loop-attr.room.items c.push.new.self.items c.loop-attr.size c.in_ok-attr_len.field-0 c.in_ok-size.size
    c.loop-attr.invariant c.requires c.loop-attr-test.true c.in_ok-push.ensures.items c.in_ok-attr_len.ensures c.in_ok-size.ensures

use Rattle.dwz_encode_texts.specs.Used.{order_uses}
use Rattle.dwz_encode_texts.proofs.UseSteps.{units_end, units_step}
use Rattle.dwz_encode_texts.proofs.used.uses_of.Goals as goal

pub loop-items-preserved : goal.loop-items-preserved
loop-items-preserved c =
    units_step c.args.known.now c.args.units.now c.loop-items.items-index c.loop-items.unit c.in_ok-unit.unit c.items-item.result c.loop-items.uses.items c.put_unit.new.uses.items
    (order_uses c.args.known.now c.args.first c.args.units.now) c.loop-items-test.true c.items-item.is c.in_ok-unit.ensures c.in_ok-put_unit.ensures c.loop-items.invariant

pub returns : goal.returns
returns c =
    units_end c.args.known.now c.args.units.now c.loop-items.items-index c.loop-items.unit c.loop-items.uses.items (order_uses c.args.known.now c.args.first c.args.units.now)
    c.loop-items-test.false c.loop-items.invariant

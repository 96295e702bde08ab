use Rattle.dwz_gen.proofs.UnitLemmas.{one_more_unit}
use Rattle.dwz_gen.proofs.demo.info_of.Goals as goal

pub loop-unit-preserved : goal.loop-unit-preserved
loop-unit-preserved c =
    one_more_unit c.loop-unit.unit c.args.first c.loop-unit.info.items c.put_unit.new.out.items
    c.in_ok-put_unit.ensures c.loop-unit.invariant

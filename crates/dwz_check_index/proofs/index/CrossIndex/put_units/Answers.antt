use Rattle.std.proofs.Common.{arith}
use Rattle.dwz_unit.specs.Rows.{units_of}
use Rattle.dwz_check_index.proofs.UnitBuilding.{first_is, units_end, units_on}
use Rattle.dwz_check_index.proofs.index.CrossIndex.put_units.Goals as goal

pub put_unit-requires-clause-few : goal.put_unit-requires-clause-few
put_unit-requires-clause-few c = first_is (units_of c.args.units.now) c.args.self.now c.loop-n.n c.loop-n.whole c.loop-n.self c.unit-unit.result c.loop-n.invariant c.unit-unit.ensures

pub loop-n-preserved : goal.loop-n-preserved
loop-n-preserved c = units_on (units_of c.args.units.now) c.args.self.now c.loop-n.n c.loop-n.whole c.next_whole-whole.result c.loop-n.self c.put_unit.new.self c.unit-unit.result c.loop-n.invariant
    c.unit-unit.ensures c.in_ok-put_unit.ensures c.next_whole-whole.ensures

pub returns : goal.returns
returns c = units_end (units_of c.args.units.now) c.args.self.now c.loop-n.n c.loop-n.whole c.loop-n.self c.loop-n.invariant (omega arith)

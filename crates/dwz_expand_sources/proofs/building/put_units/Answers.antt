use Rattle.std.proofs.Common.{arith}
use Rattle.dwz_unit.specs.Rows.{units_of}
use Rattle.dwz_expand_sources.specs.Building.{known_view}
use Rattle.dwz_expand_sources.proofs.UnitSteps.{units_end, units_on}
use Rattle.dwz_expand_sources.proofs.building.put_units.Goals as goal

pub loop-n-preserved : goal.loop-n-preserved
loop-n-preserved c = units_on (known_view c.args.known.now) (units_of c.args.units.now) c.args.sources.now c.loop-n.n c.loop-n.sources c.put_unit.new.sources c.unit-unit.result c.loop-n.invariant
    c.unit-unit.ensures c.in_ok-put_unit.ensures

pub returns : goal.returns
returns c = units_end (known_view c.args.known.now) (units_of c.args.units.now) c.args.sources.now c.loop-n.n c.loop-n.sources c.loop-n.invariant (omega arith)

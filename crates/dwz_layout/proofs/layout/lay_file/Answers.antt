use Rattle.std.proofs.Common.{ap}
use Rattle.dwz_layout.specs.Laid.{made, with_units}
use Rattle.dwz_layout.proofs.LaidLemmas.{units_done, units_more}
use Rattle.dwz_layout.proofs.layout.lay_file.Goals as goal

pub loop-unit-init : goal.loop-unit-init
loop-unit-init c = ap (with_units c.args.known.now c.args.first c.args.units.now) (c.new-file.ensures c.args.spots.now)

pub loop-unit-preserved : goal.loop-unit-preserved
loop-unit-preserved c =
    units_more c.args.known.now c.args.units.now c.loop-unit.here c.in_ok-here.here c.loop-unit.unit-index c.unit-item.result (made c.loop-unit.file c.loop-unit.spots)
    (made c.unit.new.self c.unit.new.spots) _
    c.loop-unit-test.true c.unit-item.is c.in_ok-here.ensures c.in_ok-unit.ensures c.loop-unit.invariant

pub returns : goal.returns
returns c = units_done c.args.known.now c.args.units.now c.loop-unit.here c.loop-unit.unit-index (made c.loop-unit.file c.loop-unit.spots) _ c.loop-unit-test.false c.loop-unit.invariant

use Rattle.std.proofs.lemmas.Option.{slice_get-get_or}
use Rattle.dwz_unit.specs.Stretches.{later_unit}
use Rattle.dwz_unit.proofs.FlatLemmas.{all_added, none_added, one_added}
use Rattle.dwz_unit.proofs.joining.add_units.Goals as goal

pub loop-unit-init : goal.loop-unit-init
loop-unit-init c = none_added (later_unit c.args.entries) c.args.more.now c.args.units.now.items

pub loop-unit-preserved : goal.loop-unit-preserved
loop-unit-preserved c = one_added (later_unit c.args.entries) c.args.more.now c.loop-unit.unit-index _ c.in-Some.raised c.args.units.now.items c.loop-unit.units.items c.push.new.self.items
    (slice_get-get_or c.args.more.now c.loop-unit.unit-index _ c.loop-unit-test.true) c.in-Some.ensures c.in_ok-push.ensures.items c.loop-unit.invariant

pub returns : goal.returns
returns c = λ fits. all_added (later_unit c.args.entries) c.args.more.now c.loop-unit.unit-index c.args.units.now.items c.loop-unit.units.items c.loop-unit-test.false c.loop-unit.invariant

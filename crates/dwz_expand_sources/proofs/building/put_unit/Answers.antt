use Rattle.std.proofs.Common.{◌≡◌, ◌∙◌, arith, length}
use Rattle.dwz_unit.specs.Rows.{units_of}
use Rattle.dwz_expand_sources.specs.Building.{known_view, ranges_in, stored_shape}
use Rattle.dwz_expand_sources.proofs.UnitSteps.{unit_partial, unit_put, unit_whole}
use Rattle.dwz_expand_sources.proofs.building.put_unit.Goals as goal

pub returns-then-unit-eq-DW_UT_PARTIAL : goal.returns-then-unit-eq-DW_UT_PARTIAL
returns-then-unit-eq-DW_UT_PARTIAL c = λ u found. unit_partial (units_of c.args.units.now) c.args.number c.args.unit.now c.requires.shown u found (known_view c.args.known.now) c.args.sources.now
    c.if-unit-eq-DW_UT_PARTIAL.true

pub returns : goal.returns
returns c = λ u found. (
    let k = known_view c.args.known.now in
    let x = c.args.unit.now in
    let first : c.len-first.result ≡ length c.sources.inside.ranges.items = omega arith in
    let end : c.len-end.result ≡ length c.put_below.new.ranges.items = omega arith in
    unit_put c.args.number x.first (ranges_in k c.args.number x.first (stored_shape u)) c.args.sources.now c.sources.inside.units.items c.push.new.self.items c.sources.inside.ranges.items
    c.put_below.new.ranges.items c.len-first.result c.len-end.result c.sources.view_is (c.in_ok-put_below.ensures u found) first end c.in_ok-push.ensures.items
    ∙ unit_whole (units_of c.args.units.now) c.args.number x c.requires.shown u found k c.args.sources.now c.if-unit-eq-DW_UT_PARTIAL.false)

use Rattle.dwz_unit.specs.Rows.{units_of}
use Rattle.dwz_layout_order.proofs.UnitKinds.{is_compile, sort_compile, sort_type}
use Rattle.dwz_layout_order.proofs.sorts.sort_of.Goals as goal

pub returns-then-unit-eq-DW_UT_COMPILE : goal.returns-then-unit-eq-DW_UT_COMPILE
returns-then-unit-eq-DW_UT_COMPILE c = λ u found. (
    let raw = units_of c.args.units.now in
    let x = c.args.unit.now in
    sort_compile raw c.args.file c.args.start x.first u (is_compile raw c.args.n x u c.requires.shown found c.if-unit-eq-DW_UT_COMPILE.true))

pub returns : goal.returns
returns c = λ u found. (
    let raw = units_of c.args.units.now in
    let x = c.args.unit.now in
    sort_type raw c.args.n c.args.file c.args.start c.main_of.result x u c.requires.shown found c.if-unit-eq-DW_UT_COMPILE.false c.main_of.ensures.within (c.main_of.ensures.main u found))

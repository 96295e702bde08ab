use Rattle.std.proofs.Common.{ap, ◌∙◌}
use Rattle.std.proofs.lemmas.Result.{on_ok_weaker}
use Rattle.dwz_unit.specs.Rows.{units_of}
use Rattle.dwz_graph.proofs.UnitBuilding.{root_within, some_list, unit_list}
use Rattle.dwz_check_index.specs.declared.index.Stands.TheVariants.{PartialRoot, PartialSpace, UnitRoot, UnitSpace}
use Rattle.dwz_check_index.specs.Building.{with_root, with_start, with_top}
use Rattle.dwz_check_index.proofs.UnitBuilding.{of_compile, of_partial, of_type}
use Rattle.dwz_check_index.proofs.index.CrossIndex.put_unit.Goals as goal

pub entry-end-requires : goal.entry-end-requires
entry-end-requires c = root_within (units_of c.args.units.now) c.args.number c.args.unit.now c.requires.shown

pub put_start-requires-clause-there : goal.put_start-requires-clause-there
put_start-requires-clause-there c = root_within (units_of c.args.units.now) c.args.number c.args.unit.now c.requires.shown

pub put_root-requires-clause-rows : goal.put_root-requires-clause-rows
put_root-requires-clause-rows c = some_list (units_of c.args.units.now) c.args.number c.args.unit.now c.entry-end.result c.requires.shown c.entry-end.ensures.entry

pub put_root-requires-clause-there : goal.put_root-requires-clause-there
put_root-requires-clause-there c = root_within (units_of c.args.units.now) c.args.number c.args.unit.now c.requires.shown

pub put_root-requires-then-unit-eq-DW_UT_PARTIAL-clause-rows : goal.put_root-requires-then-unit-eq-DW_UT_PARTIAL-clause-rows
put_root-requires-then-unit-eq-DW_UT_PARTIAL-clause-rows c = some_list (units_of c.args.units.now) c.args.number c.args.unit.now c.entry-end.result c.requires.shown c.entry-end.ensures.entry

pub put_root-requires-then-unit-eq-DW_UT_PARTIAL-clause-there : goal.put_root-requires-then-unit-eq-DW_UT_PARTIAL-clause-there
put_root-requires-then-unit-eq-DW_UT_PARTIAL-clause-there c = root_within (units_of c.args.units.now) c.args.number c.args.unit.now c.requires.shown

pub put_top-requires-clause-rows : goal.put_top-requires-clause-rows
put_top-requires-clause-rows c = some_list (units_of c.args.units.now) c.args.number c.args.unit.now c.entry-end.result c.requires.shown c.entry-end.ensures.entry

pub put_top-requires-clause-there : goal.put_top-requires-clause-there
put_top-requires-clause-there c = root_within (units_of c.args.units.now) c.args.number c.args.unit.now c.requires.shown

pub returns-then-unit-eq-DW_UT_COMPILE : goal.returns-then-unit-eq-DW_UT_COMPILE
returns-then-unit-eq-DW_UT_COMPILE c = λ u found. (
    let raw = units_of c.args.units.now in
    let x = c.args.unit.now in
    let list = unit_list raw c.args.number x c.entry-end.result u c.requires.shown c.entry-end.ensures.entry found in
    on_ok_weaker c.put_root.result
    (λ same. same ∙ ap (with_root c.args.number (UnitRoot c.args.whole) (UnitSpace c.args.whole) x.first u.below) c.in_ok-put_start.ensures
    ∙ of_compile raw c.args.number x u c.requires.shown found c.args.number c.args.whole (with_start c.args.self.now) c.if-unit-eq-DW_UT_COMPILE.true)
    (c.put_root.ensures u.below list))

pub returns-then-unit-eq-DW_UT_PARTIAL : goal.returns-then-unit-eq-DW_UT_PARTIAL
returns-then-unit-eq-DW_UT_PARTIAL c = λ u found. (
    let raw = units_of c.args.units.now in
    let x = c.args.unit.now in
    let list = unit_list raw c.args.number x c.entry-end.result u c.requires.shown c.entry-end.ensures.entry found in
    on_ok_weaker c.put_root-then-unit-eq-DW_UT_PARTIAL.result
    (λ same. same ∙ ap (with_root c.args.number PartialRoot PartialSpace x.first u.below) c.in_ok-put_start.ensures
    ∙ of_partial raw c.args.number x u c.requires.shown found c.args.number c.args.whole (with_start c.args.self.now) c.if-unit-eq-DW_UT_PARTIAL.true)
    (c.put_root-then-unit-eq-DW_UT_PARTIAL.ensures u.below list))

pub returns : goal.returns
returns c = λ u found. (
    let raw = units_of c.args.units.now in
    let x = c.args.unit.now in
    let list = unit_list raw c.args.number x c.entry-end.result u c.requires.shown c.entry-end.ensures.entry found in
    on_ok_weaker c.put_top.result
    (λ same. same ∙ ap (with_top c.args.number x.first x.first u.below) c.in_ok-put_start.ensures
    ∙ of_type raw c.args.number x u c.requires.shown found c.args.number c.args.whole (with_start c.args.self.now) c.if-unit-eq-DW_UT_COMPILE.false c.if-unit-eq-DW_UT_PARTIAL.false)
    (c.put_top.ensures u.below list))

use Rattle.std.proofs.Common.{ℕ, ◌+◌, [], ◌∷◌, ap, ◌∙◌, arith}
use Rattle.dwz_unit.specs.Rows.{units_of}
use Rattle.dwz_graph.specs.Building.{with_list, with_steps}
use Rattle.dwz_graph.specs.Index.{Index}
use Rattle.dwz_graph.specs.Steps.{step, steps_below}
use Rattle.dwz_graph.proofs.UnitBuilding.{below_compile, below_type, number_within, root_within, some_list, unit_list, with_more, with_pushed}
use Rattle.dwz_graph.proofs.index.Index.put_unit.Goals as goal

abbrev unit_start : Index → ℕ
unit_start w = w.starts.unit

pub entry-end-requires : goal.entry-end-requires
entry-end-requires c = root_within (units_of c.args.units.now) c.args.number c.args.unit.now c.requires.shown

pub put_below-requires : goal.put_below-requires
put_below-requires c = some_list (units_of c.args.units.now) c.args.number c.args.unit.now c.entry-end.result c.requires.shown c.entry-end.ensures.entry

pub put_list-requires-clause-rows : goal.put_list-requires-clause-rows
put_list-requires-clause-rows c = some_list (units_of c.args.units.now) c.args.number c.args.unit.now c.entry-end.result c.requires.shown c.entry-end.ensures.entry

pub overflow_add-counted : goal.overflow_add-counted
overflow_add-counted c =
    let a = number_within (units_of c.args.units.now) c.args.number c.args.unit.now c.requires.shown in
    let b = root_within (units_of c.args.units.now) c.args.number c.args.unit.now c.requires.shown in
    let same = ap (λ (w : Index). unit_start w) c.self.view_is in
    let room = c.requires.room.units in
    omega arith

pub overflow_add-root : goal.overflow_add-root
overflow_add-root c =
    let b = root_within (units_of c.args.units.now) c.args.number c.args.unit.now c.requires.shown in
    let room = c.requires.room.units in
    omega arith

pub overflow_add-root-2 : goal.overflow_add-root-2
overflow_add-root-2 c =
    let b = root_within (units_of c.args.units.now) c.args.number c.args.unit.now c.requires.shown in
    let room = c.requires.room.units in
    omega arith

pub returns-then-unit-ne-DW_UT_COMPILE : goal.returns-then-unit-ne-DW_UT_COMPILE
returns-then-unit-ne-DW_UT_COMPILE c = λ u found. (
    let raw = units_of c.args.units.now in
    let x = c.args.unit.now in
    let w = c.self.inside in
    let list = unit_list raw c.args.number x c.entry-end.result u c.requires.shown c.entry-end.ensures.entry found in
    let s = step x.first 0 0 in
    with_more c.args.self.now w.steps.items w.tops.items w.spaces.items w.starts c.self.view_is c.push.new.self.items c.put_below.new.steps.items s (steps_below 0 x.first 0 (x.first + 1) u.below)
    c.in_ok-push.ensures.items (c.in_ok-put_below.ensures u.below list)
    ∙ below_type raw c.args.number x u (c.args.self.now.starts.unit + c.args.number) (with_steps (s ∷ []) c.args.self.now) c.requires.shown found c.if-unit-ne-DW_UT_COMPILE.true)

pub returns : goal.returns
returns c = λ u found. (
    let raw = units_of c.args.units.now in
    let x = c.args.unit.now in
    let w = c.self.inside in
    let list = unit_list raw c.args.number x c.entry-end.result u c.requires.shown c.entry-end.ensures.entry found in
    let s = step x.first 0 0 in
    let pushed = with_pushed c.args.self.now w.steps.items w.tops.items w.spaces.items w.starts c.self.view_is c.push.new.self.items s c.in_ok-push.ensures.items in
    let same = ap (λ (w : Index). unit_start w) c.self.view_is in
    c.in_ok-put_list.ensures u.below list
    ∙ (λ k. with_list (same k + c.args.number) 0 x.first 0 (x.first + 1) u.below (pushed k))
    ∙ below_compile raw c.args.number x u (c.args.self.now.starts.unit + c.args.number) (with_steps (s ∷ []) c.args.self.now) c.requires.shown found c.if-unit-ne-DW_UT_COMPILE.false)

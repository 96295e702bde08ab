use Rattle.std.proofs.Common.{◌≡◌, ◌++◌, List, ◌∷◌, length, sym, ap, subst, ◌∙◌, arith}
use Rattle.dwz_def_reading.specs.Units.{CompileUnit, RawKind}
use Rattle.dwz_def_reading.proofs.CaseFacts.{on_ok}
use Rattle.dwz_graph.specs.Spaces.{stored_space}
use Rattle.dwz_graph.proofs.UnitBuilding.{root_within, some_list, unit_list}
use Rattle.dwz_layout_items.specs.declared.order.Outer.{Outer}
use Rattle.dwz_layout_items.specs.Lines.{line, lines, row_lines}
use Rattle.dwz_layout_items.specs.Order.{import_lines, order_lines}
use Rattle.dwz_layout_items.specs.Outline.{ShowsRow}
use Rattle.dwz_def_images.specs.Plan.{pinned_first, row_staying}
use Rattle.dwz_unit.specs.Rows.{units_of}
use Rattle.dwz_layout_order.specs.Kept.{IsKept, IsWhole, behind_kind, behind_unit}
use Rattle.dwz_layout_order.specs.Outline.{outers_in}
use Rattle.dwz_layout_order.proofs.UnitKinds.{end_within, is_compile, next_stays, not_compile, on_named, on_shown, on_true, whole_kept}
use Rattle.dwz_layout_order.proofs.kept.put_unit.Goals as goal

pub returns-then-unit-ne-DW_UT_COMPILE-clause-items : goal.returns-then-unit-ne-DW_UT_COMPILE-clause-items
returns-then-unit-ne-DW_UT_COMPILE-clause-items c = λ u found. (
    let raw = units_of c.args.units.now in
    let x = c.args.unit.now in
    let old = c.args.items.now.items in
    let new = c.put_whole.new.order.items in
    let other = not_compile raw c.args.n x u c.requires.shown found c.if-unit-ne-DW_UT_COMPILE.true in
    on_ok c.put_whole.result (IsWhole old new) (IsKept c.args.marks.now u.kind u.below c.args.next.now c.args.imports.now old new)
    (whole_kept c.args.marks.now u c.args.next.now c.args.imports.now old new other)
    (on_named c.put_whole.result (λ n. order_lines n new ≡ order_lines n old ++ (line 1 n.root ∷ lines 2 n.whole)) c.put_whole.ensures))

pub returns-then-unit-ne-DW_UT_COMPILE-clause-next : goal.returns-then-unit-ne-DW_UT_COMPILE-clause-next
returns-then-unit-ne-DW_UT_COMPILE-clause-next c = λ u found. (
    let raw = units_of c.args.units.now in
    let next = c.args.next.now in
    let same = next_stays u next (not_compile raw c.args.n c.args.unit.now u c.requires.shown found c.if-unit-ne-DW_UT_COMPILE.true) in
    on_ok c.put_whole.result (Unit {0}) (next ≡ behind_unit u next) (λ _. same) (on_true c.put_whole.result))

pub entry-end-requires : goal.entry-end-requires
entry-end-requires c = root_within (units_of c.args.units.now) c.args.n c.args.unit.now c.requires.shown

pub overflow_add-unit : goal.overflow_add-unit
overflow_add-unit c =
    let root = root_within (units_of c.args.units.now) c.args.n c.args.unit.now c.requires.shown in
    let few = c.requires.few in
    omega arith

pub put_list-requires-clause-rows : goal.put_list-requires-clause-rows
put_list-requires-clause-rows c = some_list (units_of c.args.units.now) c.args.n c.args.unit.now c.entry-end.result c.requires.shown c.entry-end.ensures.entry

pub put_list-requires-clause-room : goal.put_list-requires-clause-room
put_list-requires-clause-room c =
    let end = end_within (units_of c.args.units.now) c.args.n c.args.unit.now c.entry-end.result c.requires.shown c.entry-end.ensures.entry in
    let tops = c.requires.room.tops in
    let spaces = c.requires.room.spaces in
    record { tops = omega arith; spaces = omega arith }

pub put_kept-requires : goal.put_kept-requires
put_kept-requires c =
    let end = end_within (units_of c.args.units.now) c.args.n c.args.unit.now c.entry-end.result c.requires.shown c.entry-end.ensures.entry in
    let few = c.requires.few in
    let long = c.in_ok-put_list.ensures.few in
    let none = ap (λ (w : List Outer). length w) c.clear.ensures.items in
    let same = ap (λ (w : List Outer). length w) c.as_slice.ensures.value in
    omega arith

pub returns-clause-items : goal.returns-clause-items
returns-clause-items c = λ u found. (
    let raw = units_of c.args.units.now in
    let x = c.args.unit.now in
    let m = c.args.marks.now in
    let next = c.args.next.now in
    let parts = c.args.imports.now in
    let old = c.args.items.now.items in
    let new = c.put_kept.new.order.items in
    let kind = is_compile raw c.args.n x u c.requires.shown found c.if-unit-ne-DW_UT_COMPILE.false in
    let list = unit_list raw c.args.n x c.entry-end.result u c.requires.shown c.entry-end.ensures.entry found in
    let outers : c.as_slice.result.now ≡ outers_in stored_space m next u.below =
    c.as_slice.ensures.value ∙ c.in_ok-put_list.ensures.outers u.below list ∙ ap (λ (w : List Outer). w ++ outers_in stored_space m next u.below) c.clear.ensures.items in
    on_ok c.put_kept.result (IsKept m CompileUnit u.below next parts old new) (IsKept m u.kind u.below next parts old new) (subst (λ (k : RawKind). IsKept m k u.below next parts old new) (sym kind))
    (on_shown c.put_kept.result (λ v row. ShowsRow v row (outers_in stored_space m next u.below))
    (λ v row. order_lines v.names new ≡ order_lines v.names old ++ (line 1 v.names.root ∷ row_lines v.image 2 (pinned_first v.pinned (row_staying v.gone row)) ++ import_lines v.names parts))
    (λ v row s. c.put_kept.ensures v row (subst (ShowsRow v row) (sym outers) s))))

pub returns-clause-next : goal.returns-clause-next
returns-clause-next c = λ u found. (
    let raw = units_of c.args.units.now in
    let x = c.args.unit.now in
    let next = c.args.next.now in
    let kind = is_compile raw c.args.n x u c.requires.shown found c.if-unit-ne-DW_UT_COMPILE.false in
    let list = unit_list raw c.args.n x c.entry-end.result u c.requires.shown c.entry-end.ensures.entry found in
    let same : c.put_list.new.next ≡ behind_unit u next = c.in_ok-put_list.ensures.next u.below list ∙ ap (λ (k : RawKind). behind_kind k u.below next) (sym kind) in
    on_ok c.put_kept.result (Unit {0}) (c.put_list.new.next ≡ behind_unit u next) (λ _. same) (on_true c.put_kept.result))

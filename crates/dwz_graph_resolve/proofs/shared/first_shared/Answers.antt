use Rattle.std.proofs.Common.{List, false, ◌+◌, get_or, map, subst, sym}
use Rattle.std.proofs.lemmas.Option.{slice_get-get_or}
use Rattle.dwz_graph_resolve.specs.declared.lists.ListRow.{ListRow}
use Rattle.dwz_graph_resolve.specs.declared.operands.ListOperand.{ListOperand}
use Rattle.dwz_graph_resolve.specs.Apart.{FindsForeign, Rows}
use Rattle.dwz_graph_resolve.specs.ListRows.{IsWithin, own_rows, row_test, slot_test}
use Rattle.dwz_graph_resolve.proofs.PassLemmas.{got_in, rows_from_none, tested_begin, tested_end, tested_first, tested_last, tested_next, tested_start}
use Rattle.dwz_graph_resolve.proofs.shared.first_shared.Goals as goal

-- where there is none
abbrev no_list : ListRow
no_list = record { from = 0; end = 0; first = 0; last = 0; unit = 0; plain = false }

pub loop-row-init : goal.loop-row-init
loop-row-init c = λ xs top rows own clash. tested_start (row_test c.args.lists.now.operands.items) xs c.args.kept.now c.args.clash c.deref-row-items.result.now clash

pub foreign_to_list-requires : goal.foreign_to_list-requires
foreign_to_list-requires c =
    let same = c.deref.ensures.value in
    let within = c.requires (get_or c.deref-row-items.result.now c.loop-row.row-index no_list)
    (got_in c.deref-row-items.result.now c.args.lists.now.rows.items c.loop-row.row-index no_list c.deref-row-items.ensures.value c.loop-row-test.true) in
    subst (λ (w : List ListOperand). IsWithin w (get_or c.deref-row-items.result.now c.loop-row.row-index no_list)) (sym same) within

pub loop-row-preserved : goal.loop-row-preserved
loop-row-preserved c = λ xs top rows own clash.
    let same = c.deref.ensures.value in
    let there = got_in c.deref-row-items.result.now c.args.lists.now.rows.items c.loop-row.row-index no_list c.deref-row-items.ensures.value c.loop-row-test.true in
    let w = get_or c.deref-row-items.result.now c.loop-row.row-index no_list in
    let mine : Rows 0 (own_rows c.deref.result.now w) w.end = subst (λ (v : List ListOperand). Rows 0 (own_rows v w) w.end) (sym same)
    (rows_from_none (own_rows c.args.lists.now.operands.items w) (w.from + 1) w.end (own w there)) in
    let finds = c.foreign_to_list.ensures top w.end rows mine in
    tested_first (row_test c.args.lists.now.operands.items) xs c.args.kept.now c.args.clash c.deref-row-items.result.now c.loop-row.row-index w c.loop-row.place c.foreign_to_list.result
    c.least-place.result
    (slice_get-get_or c.deref-row-items.result.now c.loop-row.row-index no_list c.loop-row-test.true) (c.loop-row.invariant xs top rows own clash)
    (subst (λ (v : List ListOperand). FindsForeign c.args.kept.now (row_test v w) c.foreign_to_list.result) same finds) c.least-place.ensures

pub loop-slot-init : goal.loop-slot-init
loop-slot-init c = λ xs top rows own clash.
    tested_begin slot_test xs c.args.kept.now c.args.clash c.loop-row.place (map (row_test c.args.lists.now.operands.items) c.args.lists.now.rows.items) c.deref-slot-items.result.now
    (tested_last (row_test c.args.lists.now.operands.items) xs c.args.kept.now c.args.clash c.loop-row.place c.deref-row-items.result.now c.args.lists.now.rows.items c.loop-row.row-index
    c.deref-row-items.ensures.value c.loop-row-test.false (c.loop-row.invariant xs top rows own clash))

pub loop-slot-preserved : goal.loop-slot-preserved
loop-slot-preserved c = λ xs top rows own clash.
    tested_next slot_test xs c.args.kept.now c.args.clash (map (row_test c.args.lists.now.operands.items) c.args.lists.now.rows.items) c.deref-slot-items.result.now c.loop-slot.slot-index _
    c.loop-slot.place c.foreign_to_slot.result c.least-place-in-loop-slot.result
    (slice_get-get_or c.deref-slot-items.result.now c.loop-slot.slot-index _ c.loop-slot-test.true) (c.loop-slot.invariant xs top rows own clash) (c.foreign_to_slot.ensures top rows)
    c.least-place-in-loop-slot.ensures

pub returns : goal.returns
returns c = λ xs top rows own clash.
    tested_end slot_test xs c.args.kept.now c.args.clash c.loop-slot.place (map (row_test c.args.lists.now.operands.items) c.args.lists.now.rows.items) c.deref-slot-items.result.now
    c.args.lists.now.slots.items c.loop-slot.slot-index c.deref-slot-items.ensures.value c.loop-slot-test.false (c.loop-slot.invariant xs top rows own clash)

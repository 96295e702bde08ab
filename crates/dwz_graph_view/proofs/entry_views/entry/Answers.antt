use Rattle.std.proofs.Common.{◌∙◌, arith}
use Rattle.dwz_graph_view.proofs.EntrySteps.{an_entry, file_within, not_shown, unit_small}
use Rattle.dwz_graph_view.proofs.FileDocs.{at_index}
use Rattle.dwz_graph_view.proofs.entry_views.entry.Goals as goal

pub returns-in_err-number : goal.returns-in_err-number
returns-in_err-number c = c.from_residual.ensures ∙ not_shown c.args.graph.now.given c.args.place (c.number_at.ensures.none c.in_err-number.was)

pub bounds-files-place : goal.bounds-files-place
bounds-files-place c = file_within c.args.graph.now.given c.files.result.now c.args.place c.in_ok-number.number c.files.ensures c.in_ok-number.ensures.found

pub entry-row-requires : goal.entry-row-requires
entry-row-requires c =
    let files = c.files.result.now in
    let n = c.in_ok-number.ensures.found in
    let low = file_within c.args.graph.now.given files c.args.place c.in_ok-number.number c.files.ensures n in
    (n.means files _ c.files.ensures (at_index files c.args.place.file c.index-files-place.result low c.index-files-place.is)).0

pub overflow_add-result : goal.overflow_add-result
overflow_add-result c =
    let files = c.files.result.now in
    let low = file_within c.args.graph.now.given files c.args.place c.in_ok-number.number c.files.ensures c.in_ok-number.ensures.found in
    let there = at_index files c.args.place.file c.index-files-place.result low c.index-files-place.is in
    let small = unit_small c.args.graph.now.given files c.args.place c.files.ensures _ there c.in_ok-number.number c.entry-row.result c.units_before.result c.entry-row.ensures.entry c.units_before.ensures in
    omega (arith, small)

pub attrs_of-requires : goal.attrs_of-requires
attrs_of-requires c =
    let files = c.files.result.now in
    let n = c.in_ok-number.ensures.found in
    let low = file_within c.args.graph.now.given files c.args.place c.in_ok-number.number c.files.ensures n in
    (n.means files _ c.files.ensures (at_index files c.args.place.file c.index-files-place.result low c.index-files-place.is)).0

pub child_of-requires : goal.child_of-requires
child_of-requires c =
    let files = c.files.result.now in
    let n = c.in_ok-number.ensures.found in
    let low = file_within c.args.graph.now.given files c.args.place c.in_ok-number.number c.files.ensures n in
    (n.means files _ c.files.ensures (at_index files c.args.place.file c.index-files-place.result low c.index-files-place.is)).0

pub next_of-requires : goal.next_of-requires
next_of-requires c =
    let files = c.files.result.now in
    let n = c.in_ok-number.ensures.found in
    let low = file_within c.args.graph.now.given files c.args.place c.in_ok-number.number c.files.ensures n in
    (n.means files _ c.files.ensures (at_index files c.args.place.file c.index-files-place.result low c.index-files-place.is)).0

pub returns : goal.returns
returns c =
    let files = c.files.result.now in
    let n = c.in_ok-number.ensures.found in
    let low = file_within c.args.graph.now.given files c.args.place c.in_ok-number.number c.files.ensures n in
    let there = at_index files c.args.place.file c.index-files-place.result low c.index-files-place.is in
    an_entry c.args.graph.now.given files c.args.place c.in_ok-number.number _ n c.files.ensures there c.entry-row.result c.attrs_of.result c.child_of.result c.next_of.result c.units_before.result
    c.entry-row.ensures.entry c.units_before.ensures c.attrs_of.ensures c.child_of.ensures c.next_of.ensures

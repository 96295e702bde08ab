use Rattle.std.proofs.Common.{rules, ◌∙◌, arith}
use Rattle.std.specs.Int.{w128}
use Rattle.std.proofs.lemmas.Int.{to_z-of_z}
use Rattle.dwz_unit.specs.Rows.{attr_view}
use Rattle.dwz_graph_view.proofs.AttrSteps.{attr_missing, attr_shown, entry_missing, form_fits}
use Rattle.dwz_graph_view.proofs.EntrySteps.{file_within}
use Rattle.dwz_graph_view.proofs.FileDocs.{at_index}
use Rattle.dwz_graph_view.proofs.attr_forms.attr_form.Goals as goal

pub bounds-files-place : goal.bounds-files-place
bounds-files-place c = file_within c.args.graph.now.given c.files.result.now c.args.place c.in_ok-number.number c.files.ensures c.in_ok-number.ensures.found

pub find_attr-requires : goal.find_attr-requires
find_attr-requires c =
    let files = c.files.result.now in
    let n = c.in_ok-number.ensures.found in
    let low = file_within c.args.graph.now.given files c.args.place c.in_ok-number.number c.files.ensures n in
    (n.means files _ c.files.ensures (at_index files c.args.place.file c.index-files-place.result low c.index-files-place.is)).0

pub returns-in_err-number : goal.returns-in_err-number
returns-in_err-number c = c.from_residual.ensures ∙ entry_missing c.args.graph.now.given c.args.place c.args.index (c.number_at.ensures.none c.in_err-number.was)

pub returns-in_err-k : goal.returns-in_err-k
returns-in_err-k c =
    let files = c.files.result.now in
    let n = c.in_ok-number.ensures.found in
    let low = file_within c.args.graph.now.given files c.args.place c.in_ok-number.number c.files.ensures n in
    let there = at_index files c.args.place.file c.index-files-place.result low c.index-files-place.is in
    c.from_residual-in_err-k.ensures ∙ attr_missing c.args.graph.now.given files c.args.place c.in_ok-number.number _ n c.files.ensures there c.args.index (c.find_attr.ensures.none c.in_err-k.was)

pub overflow_cast-result : goal.overflow_cast-result
overflow_cast-result c =
    let files = c.files.result.now in
    let n = c.in_ok-number.ensures.found in
    let low = file_within c.args.graph.now.given files c.args.place c.in_ok-number.number c.files.ensures n in
    let there = at_index files c.args.place.file c.index-files-place.result low c.index-files-place.is in
    let fits = form_fits c.args.graph.now.given files c.args.place c.in_ok-number.number _ n c.files.ensures there c.args.index c.in_ok-k.k (attr_view c.attr-attr.result) c.in_ok-k.ensures.found.1 c.attr-attr.ensures.attr in
    omega (arith, fits)

pub returns : goal.returns
returns c =
    let files = c.files.result.now in
    let n = c.in_ok-number.ensures.found in
    let low = file_within c.args.graph.now.given files c.args.place c.in_ok-number.number c.files.ensures n in
    let there = at_index files c.args.place.file c.index-files-place.result low c.index-files-place.is in
    attr_shown c.args.graph.now.given files c.args.place c.in_ok-number.number _ n c.files.ensures there c.args.index c.in_ok-k.k (attr_view c.attr-attr.result) _ c.in_ok-k.ensures.found.1 c.attr-attr.ensures.attr
    (to_z-of_z w128 c.number_of.result (search rules) ∙ c.number_of.ensures)

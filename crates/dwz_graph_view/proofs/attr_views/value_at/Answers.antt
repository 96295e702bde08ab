use Rattle.dwz_unit.specs.Rows.{attr_view}
use Rattle.dwz_graph_view.proofs.AttrSteps.{attr_missing}
use Rattle.dwz_graph_view.proofs.AttrValues.{form_none, some_file, value_is}
use Rattle.dwz_graph_view.proofs.EntrySteps.{file_within}
use Rattle.dwz_def_reading.proofs.ListFacts.{item_got}
use Rattle.dwz_graph_view.proofs.attr_views.value_at.Goals as goal

pub bounds-files-place : goal.bounds-files-place
bounds-files-place c = file_within c.args.graph.now.given c.files.result.now c.args.place c.in-Some.number c.files.ensures c.in-Some.ensures.found

pub find_attr-requires : goal.find_attr-requires
find_attr-requires c =
    let files = c.files.result.now in
    let n = c.in-Some.ensures.found in
    let low = file_within c.args.graph.now.given files c.args.place c.in-Some.number c.files.ensures n in
    (n.means files _ c.files.ensures (item_got files c.args.place.file c.index-files-place.result low c.index-files-place.is)).0

pub returns-in_default-find_attr : goal.returns-in_default-find_attr
returns-in_default-find_attr c =
    let files = c.files.result.now in
    let n = c.in-Some.ensures.found in
    let low = file_within c.args.graph.now.given files c.args.place c.in-Some.number c.files.ensures n in
    let there = item_got files c.args.place.file c.index-files-place.result low c.index-files-place.is in
    form_none c.args.place.file _ (attr_missing c.args.graph.now.given files c.args.place c.in-Some.number _ n c.files.ensures there c.args.index (c.find_attr.ensures.none c.in_default-find_attr.is))

pub setting_of-requires-clause-file : goal.setting_of-requires-clause-file
setting_of-requires-clause-file c =
    let files = c.files.result.now in
    let n = c.in-Some.ensures.found in
    let low = file_within c.args.graph.now.given files c.args.place c.in-Some.number c.files.ensures n in
    let there = item_got files c.args.place.file c.index-files-place.result low c.index-files-place.is in
    some_file c.args.graph.now.given files c.args.place c.in-Some.number _ n c.files.ensures there

pub setting_of-requires-clause-entry : goal.setting_of-requires-clause-entry
setting_of-requires-clause-entry c =
    let files = c.files.result.now in
    let n = c.in-Some.ensures.found in
    let low = file_within c.args.graph.now.given files c.args.place c.in-Some.number c.files.ensures n in
    (n.means files _ c.files.ensures (item_got files c.args.place.file c.index-files-place.result low c.index-files-place.is)).0

pub returns : goal.returns
returns c =
    let files = c.files.result.now in
    let n = c.in-Some.ensures.found in
    let low = file_within c.args.graph.now.given files c.args.place c.in-Some.number c.files.ensures n in
    let there = item_got files c.args.place.file c.index-files-place.result low c.index-files-place.is in
    value_is c.args.graph.now.given files c.args.place c.in-Some.number _ n c.files.ensures there c.args.index c.in-Some-find_attr.k (attr_view c.attr-attr.result) c.setting_of.result c.value_view.result
    c.in-Some-find_attr.ensures.found.1 c.attr-attr.ensures.attr c.setting_of.ensures c.value_view.ensures

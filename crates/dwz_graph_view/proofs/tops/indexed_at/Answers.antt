use Rattle.dwz_def_reading.proofs.ListFacts.{item_got}
use Rattle.dwz_graph_view.proofs.FileDocs.{at_index}
use Rattle.dwz_graph_view.proofs.TopSteps.{index_within, named_by, not_in_file, not_in_files}
use Rattle.dwz_graph_view.proofs.tops.indexed_at.Goals as goal

pub returns-then-place-files : goal.returns-then-place-files
returns-then-place-files c =
    record { found = tt; none = λ e. not_in_files c.args.graph.now.given c.files-files.result.now c.indexes-indexes.result.now c.args.place c.files-files.ensures c.indexes-indexes.ensures c.if-place-files.true }

pub returns-in_err-number-clause-none : goal.returns-in_err-number-clause-none
returns-in_err-number-clause-none c e =
    let files = c.files-files.result.now in
    let there = at_index files c.args.place.file c.index-files-place.result c.if-place-files.false c.index-files-place.is in
    not_in_file c.args.graph.now.given files c.indexes-indexes.result.now c.args.place c.files-files.ensures c.indexes-indexes.ensures _ there (c.find_entry.ensures.none c.in_err-number.was)

pub bounds-indexes-place : goal.bounds-indexes-place
bounds-indexes-place c = index_within c.args.graph.now.given c.files-files.result.now c.indexes-indexes.result.now c.args.place c.files-files.ensures c.indexes-indexes.ensures c.if-place-files.false

pub returns : goal.returns
returns c =
    let files = c.files-files.result.now in
    let contents = c.args.graph.now.given in
    let indexes = c.indexes-indexes.result.now in
    let there = at_index files c.args.place.file c.index-files-place.result c.if-place-files.false c.index-files-place.is in
    let low = index_within contents files indexes c.args.place c.files-files.ensures c.indexes-indexes.ensures c.if-place-files.false in
    let index = item_got indexes c.args.place.file c.index-indexes-place.result low c.index-indexes-place.is in
    record { found = named_by contents files indexes c.args.place c.files-files.ensures c.indexes-indexes.ensures _ there _ index c.in_ok-number.number c.in_ok-number.ensures.found; none = λ e. absurd cc }

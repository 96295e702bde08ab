use Rattle.dwz_graph_view.proofs.EntrySteps.{a_number_if, no_entry, no_file}
use Rattle.dwz_graph_view.proofs.FileDocs.{at_index}
use Rattle.dwz_graph_view.proofs.entry_views.number_at.Goals as goal

pub returns-then-place-files : goal.returns-then-place-files
returns-then-place-files c = record { found = tt; none = λ e. no_file c.args.graph.now.given c.files-files.result.now c.args.place c.files-files.ensures c.if-place-files.true }

pub returns : goal.returns
returns c =
    let files = c.files-files.result.now in
    let there = at_index files c.args.place.file c.index-files-place.result c.if-place-files.false c.index-files-place.is in
    record {
      found = a_number_if c.args.graph.now.given files c.args.place c.files-files.ensures _ there c.find_entry.result c.find_entry.ensures.found;
      none = λ e. no_entry c.args.graph.now.given files c.args.place c.files-files.ensures _ there (c.find_entry.ensures.none e);
    }

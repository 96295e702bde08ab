use Rattle.std.proofs.Common.{List, Bool, ◌∙◌, sym, subst}
use Rattle.dwz_graph.specs.Files.{docs_of}
use Rattle.dwz_def_output.specs.Written.{ArePrunable, ReadAs}
use Rattle.dwz_run.proofs.FilesWritten.{as_many_contents, common_in, graph_rows, new_in}
use Rattle.dwz_run.proofs.written.slimmed_files.Goals as goal

pub outcome-requires-clause-each : goal.outcome-requires-clause-each
outcome-requires-clause-each g c =
    let made = c.in_ok-made.made in
    graph_rows c.args.options.now c.sharing_of-sharing.result c.args.graph.now.given c.deref.result.now c.sharing_of-sharing.ensures c.requires.reads made.files.items made.partials
    c.in_ok-made.ensures.files
    ∙ as_many_contents c.args.graph.now.given c.args.contents.now c.requires.read

pub returns : goal.returns
returns g c =
    let o = c.args.options.now in
    let sharing = c.sharing_of-sharing.result in
    let graph = c.args.graph.now.given in
    let flags = c.deref.result.now in
    let made = c.in_ok-made.made in
    let prunable : ArePrunable graph (docs_of graph) flags = subst (λ (fs : List Bool). ArePrunable graph (docs_of graph) fs) (sym c.deref.ensures.value) c.in_ok-prunes.ensures in
    let read : ReadAs graph (docs_of graph) flags = record { reads = c.requires.reads; prunable = prunable } in
    let new = new_in o sharing graph flags c.sharing_of-sharing.ensures made.files.items made.partials c.in_ok-made.ensures.files in
    let common = common_in o sharing graph flags c.sharing_of-sharing.ensures made.common c.in_ok-made.ensures.common in
    c.outcome.ensures (docs_of graph) flags read new common

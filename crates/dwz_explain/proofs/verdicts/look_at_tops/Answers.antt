use Rattle.dwz_graph.proofs.IndexesThere.{indexes_there}
use Rattle.dwz_explain.proofs.SmallLemmas.{targets_few, top_short}
use Rattle.dwz_explain.proofs.verdicts.look_at_tops.Goals as goal

pub returns-clause-short : goal.returns-clause-short
returns-clause-short c =
    let there = indexes_there c.args.graph.now.given c.files-files.result.now c.files-files.ensures in
    top_short c.args.graph.now.given c.files-files.result.now there.indexes c.files-files.ensures there.are

pub returns-clause-few : goal.returns-clause-few
returns-clause-few c =
    let there = indexes_there c.args.graph.now.given c.files-files.result.now c.files-files.ensures in
    targets_few c.args.graph.now.given c.files-files.result.now there.indexes c.files-files.ensures there.are

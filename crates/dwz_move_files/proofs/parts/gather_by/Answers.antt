use Rattle.dwz_graph.proofs.IndexesThere.{indexes_there}
use Rattle.dwz_move_files.proofs.FilesLow.{tops_few}
use Rattle.dwz_move_files.proofs.PartSteps.{always}
use Rattle.dwz_move_files.proofs.parts.gather_by.Goals as goal

pub returns-clause-few : goal.returns-clause-few
returns-clause-few g c =
    let there = indexes_there c.args.graph.now.given c.files.result.now c.files.ensures in
    always c.join_parts.result (tops_few c.args.graph.now.given c.files.result.now there.indexes c.files.ensures there.are)

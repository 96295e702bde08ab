use Rattle.std.proofs.Common.{◌∙◌, arith}
use Rattle.dwz_graph.proofs.FileLemmas.{files_few}
use Rattle.dwz_graph.proofs.FileCounts.{files_many}
use Rattle.dwz_move_files.proofs.outline.with_units.Goals as goal

pub overflow_cast-files : goal.overflow_cast-files
overflow_cast-files c = (let many = files_few c.args.graph.now.given c.files.result.now c.files.ensures in omega arith)

pub returns-clause-rows : goal.returns-clause-rows
returns-clause-rows c = c.new.ensures

pub returns-clause-units : goal.returns-clause-units
returns-clause-units c = c.new-files_of_units.ensures ∙ c.in_ok-files_of_units.ensures

pub returns-clause-files : goal.returns-clause-files
returns-clause-files c = (let many = files_many c.args.graph.now.given c.files.result.now c.files.ensures in omega arith)

use Rattle.std.proofs.Common.{◌∙◌, arith}
use Rattle.dwz_graph.proofs.FileLemmas.{files_few}
use Rattle.dwz_graph_view.proofs.FileDocs.{files_small}
use Rattle.dwz_graph_view.proofs.UnitCounts.{all_before}
use Rattle.dwz_graph_view.proofs.unit_views.units.Goals as goal

pub overflow_cast-files : goal.overflow_cast-files
overflow_cast-files c = (let small = files_small c.args.graph.now.given c.files.result.now c.files.ensures in omega arith)

pub units_before-requires : goal.units_before-requires
units_before-requires c = (let many = files_few c.args.graph.now.given c.files.result.now c.files.ensures in omega arith)

pub returns : goal.returns
returns c = c.units_before.ensures ∙ all_before c.args.graph.now.given c.files.result.now c.files.ensures

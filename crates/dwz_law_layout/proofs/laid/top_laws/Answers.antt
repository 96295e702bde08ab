use Rattle.dwz_law_layout.proofs.TopTrees.{top_files, top_trees}
use Rattle.dwz_law_layout.proofs.laid.top_laws.Goals as goal

pub returns-clause-trees : goal.returns-clause-trees
returns-clause-trees c = top_trees

pub returns-clause-files : goal.returns-clause-files
returns-clause-files c = top_files

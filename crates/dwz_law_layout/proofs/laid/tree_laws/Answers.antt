use Rattle.dwz_law_layout.proofs.FilesFound.{others, unit_files}
use Rattle.dwz_law_layout.proofs.OldUnits.{units_shown}
use Rattle.dwz_law_layout.proofs.laid.tree_laws.Goals as goal

pub returns-clause-shown : goal.returns-clause-shown
returns-clause-shown c = units_shown

pub returns-clause-files : goal.returns-clause-files
returns-clause-files c = unit_files

pub returns-clause-others : goal.returns-clause-others
returns-clause-others c = others

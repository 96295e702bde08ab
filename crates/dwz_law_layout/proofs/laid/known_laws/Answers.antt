use Rattle.dwz_law_layout.proofs.FilesKnown.{all_files_known, none_known, run_known}
use Rattle.dwz_law_layout.proofs.laid.known_laws.Goals as goal

pub returns-clause-files : goal.returns-clause-files
returns-clause-files c = all_files_known

pub returns-clause-all : goal.returns-clause-all
returns-clause-all c = run_known

pub returns-clause-none : goal.returns-clause-none
returns-clause-none c = none_known

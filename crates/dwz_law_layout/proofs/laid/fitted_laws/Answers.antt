use Rattle.dwz_law_layout.proofs.FilesFitted.{files_fitted, files_shown, run_fitted, run_shown}
use Rattle.dwz_law_layout.proofs.laid.fitted_laws.Goals as goal

pub returns-clause-written : goal.returns-clause-written
returns-clause-written c = files_fitted

pub returns-clause-fitted : goal.returns-clause-fitted
returns-clause-fitted c = run_fitted

pub returns-clause-files : goal.returns-clause-files
returns-clause-files c = files_shown

pub returns-clause-shown : goal.returns-clause-shown
returns-clause-shown c = run_shown

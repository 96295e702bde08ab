use Rattle.dwz_law_over.proofs.FinishedOver.{finished_over, finished_over_alone}
use Rattle.dwz_law_over.proofs.finished.finished_over_laws.Goals as goal

pub returns-clause-beside : goal.returns-clause-beside
returns-clause-beside c = finished_over

pub returns-clause-alone : goal.returns-clause-alone
returns-clause-alone c = finished_over_alone

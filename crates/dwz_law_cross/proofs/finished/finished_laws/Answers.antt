use Rattle.dwz_law_cross.proofs.FinishedLemmas.{finished, finished_alone, names_sup}
use Rattle.dwz_law_cross.proofs.finished.finished_laws.Goals as goal

pub returns-clause-beside : goal.returns-clause-beside
returns-clause-beside c = finished

pub returns-clause-alone : goal.returns-clause-alone
returns-clause-alone c = finished_alone

pub returns-clause-names : goal.returns-clause-names
returns-clause-names c = names_sup

use Rattle.dwz_law_over.proofs.SupOver.{names_over, sup_over_good, takes_over}
use Rattle.dwz_law_over.proofs.sup.sup_over_laws.Goals as goal

pub returns-clause-good : goal.returns-clause-good
returns-clause-good c = sup_over_good

pub returns-clause-names : goal.returns-clause-names
returns-clause-names c = names_over

pub returns-clause-takes : goal.returns-clause-takes
returns-clause-takes c = takes_over

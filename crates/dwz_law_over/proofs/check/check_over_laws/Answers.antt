use Rattle.dwz_law_over.proofs.CheckOver.{check_over, stay_over}
use Rattle.dwz_law_over.proofs.check.check_over_laws.Goals as goal

pub returns-clause-moved : goal.returns-clause-moved
returns-clause-moved c = check_over

pub returns-clause-stays : goal.returns-clause-stays
returns-clause-stays c = stay_over

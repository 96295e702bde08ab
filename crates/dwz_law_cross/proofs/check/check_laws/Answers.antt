use Rattle.dwz_law_cross.proofs.CheckLemmas.{checks}
use Rattle.dwz_law_cross.proofs.StayLemmas.{stays_so}
use Rattle.dwz_law_cross.proofs.check.check_laws.Goals as goal

pub returns-clause-moved : goal.returns-clause-moved
returns-clause-moved c = checks

pub returns-clause-stays : goal.returns-clause-stays
returns-clause-stays c = stays_so

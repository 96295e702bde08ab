use Rattle.dwz_law_over.proofs.StandOver.{own_over, stand_over}
use Rattle.dwz_law_over.proofs.stand.stand_over_laws.Goals as goal

pub returns-clause-stands : goal.returns-clause-stands
returns-clause-stands c = stand_over

pub returns-clause-own : goal.returns-clause-own
returns-clause-own c = own_over

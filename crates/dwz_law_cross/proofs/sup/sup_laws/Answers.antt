use Rattle.dwz_law_cross.proofs.SupLemmas.{sup_good}
use Rattle.dwz_law_cross.proofs.sup.sup_laws.Goals as goal

pub returns : goal.returns
returns c = sup_good

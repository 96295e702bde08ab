use Rattle.dwz_law_cross.proofs.AllStand.{stand_so}
use Rattle.dwz_law_cross.proofs.stand.stand_laws.Goals as goal

pub returns : goal.returns
returns c = stand_so

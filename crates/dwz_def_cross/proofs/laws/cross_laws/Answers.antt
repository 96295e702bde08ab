use Rattle.dwz_def_cross.proofs.CrossLemmas.{cross_same}
use Rattle.dwz_def_cross.proofs.laws.cross_laws.Goals as goal

pub returns : goal.returns
returns g c f v w is = cross_same f v w is

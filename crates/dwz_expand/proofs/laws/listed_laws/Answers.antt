use Rattle.dwz_expand.proofs.KeptLists.{kept_lists}
use Rattle.dwz_expand.proofs.laws.listed_laws.Goals as goal

pub returns : goal.returns
returns c = λ r files own common long has back is f reads content raw. kept_lists r files own common long has back is f content raw

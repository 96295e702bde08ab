use Rattle.dwz_check_index.proofs.TwoNames.{two_names}
use Rattle.dwz_check_index.proofs.laws.two_names_laws.Goals as goal

pub returns : goal.returns
returns c = two_names

use Rattle.dwz_check_index.proofs.MapLemmas.{all_later}
use Rattle.dwz_check_index.proofs.laws.later_laws.Goals as goal

pub returns : goal.returns
returns c x = all_later

use Rattle.dwz_check_index.proofs.MapLemmas.{mapped}
use Rattle.dwz_check_index.proofs.laws.map_laws.Goals as goal

pub returns : goal.returns
returns c x = mapped

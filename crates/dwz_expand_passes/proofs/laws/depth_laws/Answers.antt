use Rattle.dwz_expand_passes.proofs.StandLemmas.{lines_law}
use Rattle.dwz_expand_passes.proofs.laws.depth_laws.Goals as goal

pub returns : goal.returns
returns c = lines_law

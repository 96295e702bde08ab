use Rattle.dwz_law_expand.proofs.ReadLemmas.{reads_freely}
use Rattle.dwz_law_expand.proofs.laws.read_laws.Goals as goal

pub returns : goal.returns
returns c f out bytes reads free has = reads_freely f out bytes reads free has

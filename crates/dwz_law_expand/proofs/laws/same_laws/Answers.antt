use Rattle.dwz_law_expand.proofs.MeetLemmas.{same_meaning}
use Rattle.dwz_law_expand.proofs.laws.same_laws.Goals as goal

pub returns : goal.returns
returns c f bytes reads free fit = same_meaning f bytes reads free fit

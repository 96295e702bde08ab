use Rattle.dwz_law_run.proofs.SameOverLemmas.{same_over}
use Rattle.dwz_law_run.proofs.same_over.same_over_laws.Goals as goal

pub returns : goal.returns
returns c = same_over

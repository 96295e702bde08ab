use Rattle.dwz_law_run.proofs.SameLemmas.{same_said}
use Rattle.dwz_law_run.proofs.same.same_laws.Goals as goal

pub returns : goal.returns
returns c = same_said

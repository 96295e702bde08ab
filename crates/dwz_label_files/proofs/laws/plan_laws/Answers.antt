use Rattle.dwz_label_files.proofs.PlanLemmas.{decides_apart, decides_together}
use Rattle.dwz_label_files.proofs.laws.plan_laws.Goals as goal

pub returns-clause-together : goal.returns-clause-together
returns-clause-together c = decides_together

pub returns-clause-apart : goal.returns-clause-apart
returns-clause-apart c = decides_apart

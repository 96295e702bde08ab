use Rattle.dwz_run.proofs.Demonstrated.{demonstrated}
use Rattle.dwz_run.proofs.laws.demo_laws.Goals as goal

pub returns : goal.returns
returns c words old new shown shown_new status e a = demonstrated words old new shown shown_new a status e

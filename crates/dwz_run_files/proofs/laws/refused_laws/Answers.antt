use Rattle.dwz_run_files.proofs.FirstFaults.{refused}
use Rattle.dwz_run_files.proofs.laws.refused_laws.Goals as goal

pub returns : goal.returns
returns c = λ contents r is. refused contents r is

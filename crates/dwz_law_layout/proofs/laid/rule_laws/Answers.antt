use Rattle.dwz_law_layout.proofs.WholeRuns.{whole_runs}
use Rattle.dwz_law_layout.proofs.laid.rule_laws.Goals as goal

pub returns : goal.returns
returns c = whole_runs

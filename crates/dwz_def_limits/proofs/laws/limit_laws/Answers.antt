use Rattle.dwz_def_limits.proofs.LimitLemmas.{fewer_files}
use Rattle.dwz_def_limits.proofs.laws.limit_laws.Goals as goal

pub returns : goal.returns
returns c = fewer_files

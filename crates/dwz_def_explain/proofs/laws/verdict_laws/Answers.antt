use Rattle.dwz_def_explain.proofs.VerdictLemmas.{one_verdict, some_verdict}
use Rattle.dwz_def_explain.proofs.laws.verdict_laws.Goals as goal

pub returns-clause-one : goal.returns-clause-one
returns-clause-one c = one_verdict

pub returns-clause-some : goal.returns-clause-some
returns-clause-some c = some_verdict

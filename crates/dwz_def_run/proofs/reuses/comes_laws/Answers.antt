use Rattle.dwz_def_run.proofs.OneComes.{never_nothing_comes, one_comes}
use Rattle.dwz_def_run.proofs.reuses.comes_laws.Goals as goal

pub returns-clause-one : goal.returns-clause-one
returns-clause-one c = one_comes

pub returns-clause-never_nothing : goal.returns-clause-never_nothing
returns-clause-never_nothing c = never_nothing_comes

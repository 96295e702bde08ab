use Rattle.dwz_def_run.proofs.OneYields.{one_yields}
use Rattle.dwz_def_run.proofs.NeverNothing.{never_nothing_yields}
use Rattle.dwz_def_run.proofs.batches.yields_laws.Goals as goal

pub returns-clause-one : goal.returns-clause-one
returns-clause-one c = one_yields

pub returns-clause-never_nothing : goal.returns-clause-never_nothing
returns-clause-never_nothing c = never_nothing_yields

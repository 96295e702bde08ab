use Rattle.dwz_def_run.proofs.Lengths.{lengths}
use Rattle.dwz_def_run.proofs.OneOutcome.{one_outcome}
use Rattle.dwz_def_run.proofs.Compared.{differs_apart}
use Rattle.dwz_def_run.proofs.SomeOutcome.{always_some, some_outcome}
use Rattle.dwz_def_run.proofs.Stopping.{stops}
use Rattle.dwz_def_run.proofs.outcome.out_laws.Goals as goal

pub returns-clause-outcome : goal.returns-clause-outcome
returns-clause-outcome c = one_outcome

pub returns-clause-some : goal.returns-clause-some
returns-clause-some c = some_outcome

pub returns-clause-never_nothing : goal.returns-clause-never_nothing
returns-clause-never_nothing c = always_some

pub returns-clause-differs : goal.returns-clause-differs
returns-clause-differs c = differs_apart

pub returns-clause-lengths : goal.returns-clause-lengths
returns-clause-lengths c = lengths

pub returns-clause-stops : goal.returns-clause-stops
returns-clause-stops c = stops

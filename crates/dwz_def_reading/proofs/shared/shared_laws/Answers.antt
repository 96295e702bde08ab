use Rattle.dwz_def_reading.proofs.NamedLemmas.{units_name, units_some}
use Rattle.dwz_def_reading.proofs.PassLemmas.{none_pass, pass_none}
use Rattle.dwz_def_reading.proofs.SharedLemmas.{shared_agrees}
use Rattle.dwz_def_reading.proofs.WidthLemmas.{units_wide}
use Rattle.dwz_def_reading.proofs.shared.shared_laws.Goals as goal

pub returns-clause-none : goal.returns-clause-none
returns-clause-none c lists = (shared_agrees lists).ok tt

pub returns-clause-fault : goal.returns-clause-fault
returns-clause-fault c lists = (shared_agrees lists).err

pub returns-clause-passes : goal.returns-clause-passes
returns-clause-passes c lists rows are = pass_none lists rows are

pub returns-clause-apart : goal.returns-clause-apart
returns-clause-apart c lists rows are = none_pass lists rows are

pub returns-clause-named : goal.returns-clause-named
returns-clause-named c = units_name

pub returns-clause-some : goal.returns-clause-some
returns-clause-some c = units_some

pub returns-clause-wide : goal.returns-clause-wide
returns-clause-wide c = units_wide

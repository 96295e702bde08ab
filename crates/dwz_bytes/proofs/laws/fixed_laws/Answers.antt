use Rattle.dwz_bytes.proofs.FixedLemmas.{fixed_one, fixed_written}
use Rattle.dwz_bytes.proofs.laws.fixed_laws.Goals as goal

pub returns-clause-one : goal.returns-clause-one
returns-clause-one c = fixed_one

pub returns-clause-written : goal.returns-clause-written
returns-clause-written c = fixed_written

use Rattle.dwz_codes.proofs.RowLemmas.{ascending_different, found, none}
use Rattle.dwz_codes.proofs.laws.table_laws.Goals as goal

pub returns-clause-found : goal.returns-clause-found
returns-clause-found c = found

pub returns-clause-none : goal.returns-clause-none
returns-clause-none c = none

pub returns-clause-different : goal.returns-clause-different
returns-clause-different c = ascending_different

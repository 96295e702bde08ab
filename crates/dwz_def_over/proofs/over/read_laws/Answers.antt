use Rattle.dwz_def_over.proofs.OneRead.{one_read, read_or_first}
use Rattle.dwz_def_over.proofs.PlacedOver.{placed_over}
use Rattle.dwz_def_over.proofs.over.read_laws.Goals as goal

pub returns-clause-one : goal.returns-clause-one
returns-clause-one c = one_read

pub returns-clause-not_refused : goal.returns-clause-not_refused
returns-clause-not_refused c = read_or_first

pub returns-clause-placed : goal.returns-clause-placed
returns-clause-placed c = placed_over

use Rattle.dwz_law_layout.proofs.Either.{order_by, settled_over}
use Rattle.dwz_law_layout.proofs.either_order_laws.Goals as goal

pub returns-clause-order : goal.returns-clause-order
returns-clause-order c = order_by

pub returns-clause-settled : goal.returns-clause-settled
returns-clause-settled c = settled_over

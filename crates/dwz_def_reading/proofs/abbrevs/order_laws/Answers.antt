use Rattle.dwz_def_reading.proofs.OrderLemmas.{by_code-ascends, by_code-find, by_code-fits, by_code-kept}
use Rattle.dwz_def_reading.proofs.abbrevs.order_laws.Goals as goal

pub returns-clause-ascends : goal.returns-clause-ascends
returns-clause-ascends c = by_code-ascends

pub returns-clause-same : goal.returns-clause-same
returns-clause-same c = by_code-find

pub returns-clause-fits : goal.returns-clause-fits
returns-clause-fits c = by_code-fits

pub returns-clause-kept : goal.returns-clause-kept
returns-clause-kept c = by_code-kept

use Rattle.dwz_law_layout.proofs.NamesThere.{files_key}
use Rattle.dwz_law_layout.proofs.NumbersCounted.{numbers_counted}
use Rattle.dwz_law_layout.proofs.OrderRefers.{order_refers}
use Rattle.dwz_law_layout.proofs.laid.refer_laws.Goals as goal

pub returns-clause-refer : goal.returns-clause-refer
returns-clause-refer c = λ keys k order files shown counted only apart. order_refers keys k order files apart shown only counted

pub returns-clause-counted : goal.returns-clause-counted
returns-clause-counted c = λ k order known parts sorts. numbers_counted k order known parts sorts

pub returns-clause-named : goal.returns-clause-named
returns-clause-named c = λ keys k order files shown n written. files_key keys k n 0 order files shown written

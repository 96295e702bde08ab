use Rattle.dwz_law_layout.proofs.OrderOfRun.{run_few, run_order, settled_order}
use Rattle.dwz_law_layout.proofs.laid.order_laws.Goals as goal

pub returns-clause-order : goal.returns-clause-order
returns-clause-order c = λ f t k orders facts listed read few shows. run_order f t k orders facts listed read few shows

pub returns-clause-few : goal.returns-clause-few
returns-clause-few c = run_few

pub returns-clause-settled : goal.returns-clause-settled
returns-clause-settled c = λ f t k s facts listed settled few read orders put texts. settled_order f t k s facts listed settled few read orders put texts

use Rattle.dwz_law_layout.proofs.KeptItems.{kept_items}
use Rattle.dwz_law_layout.proofs.PartItems.{part_items}
use Rattle.dwz_law_layout.proofs.laid.item_laws.Goals as goal

pub returns-clause-part : goal.returns-clause-part
returns-clause-part c = λ rows of_tops tops ups items up is. part_items tops ups rows of_tops items up is

pub returns-clause-kept : goal.returns-clause-kept
returns-clause-kept c = λ m kind below next imports items is. kept_items m kind below next imports items is

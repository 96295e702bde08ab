use Rattle.dwz_law_layout.proofs.LayoutLemmas.{owns_entry}
use Rattle.dwz_law_layout.proofs.UnitsReach.{part_number}
use Rattle.dwz_law_layout.proofs.laid.owned_laws.Goals as goal

pub returns-clause-entries : goal.returns-clause-entries
returns-clause-entries c = λ beside f t k facts listed n bytes x index h. owns_entry f t k facts listed n bytes x index h

pub returns-clause-parts : goal.returns-clause-parts
returns-clause-parts c = λ beside f t k facts listed p part nth. part_number f t k facts listed p part nth

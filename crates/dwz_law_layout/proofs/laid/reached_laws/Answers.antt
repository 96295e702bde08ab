use Rattle.dwz_law_layout.proofs.LayoutLemmas.{common_owners, file_owners}
use Rattle.dwz_law_layout.proofs.UnitsReach.{common_part, own_part}
use Rattle.dwz_law_layout.proofs.laid.reached_laws.Goals as goal

pub returns-clause-common : goal.returns-clause-common
returns-clause-common c = λ beside f t k facts listed n bytes x index h. common_owners f t k facts listed n bytes x index h

pub returns-clause-file : goal.returns-clause-file
returns-clause-file c = λ beside f t k facts listed n bytes x index h. file_owners f t k facts listed n bytes x index h

pub returns-clause-common_parts : goal.returns-clause-common_parts
returns-clause-common_parts c = λ beside f t k facts listed here u e is p part nth. common_part f t k facts listed here u e is p part nth

pub returns-clause-file_parts : goal.returns-clause-file_parts
returns-clause-file_parts c = λ beside f t k facts listed n bytes x index h changed here u e is p part nth home. own_part f t k facts listed n changed here u e is p part nth home

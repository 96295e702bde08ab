use Rattle.dwz_law_layout.proofs.LayoutLemmas.{knows_file, knows_references, names_entry, names_itself}
use Rattle.dwz_law_layout.proofs.laid.named_laws.Goals as goal

pub returns-clause-known : goal.returns-clause-known
returns-clause-known c = λ beside f t k facts listed n bytes x index h. knows_file f t k facts listed n bytes x index h

pub returns-clause-references : goal.returns-clause-references
returns-clause-references c = λ beside f t k facts listed n bytes x index h. knows_references f t k facts listed n bytes x index h

pub returns-clause-names : goal.returns-clause-names
returns-clause-names c = λ beside f t k facts listed n bytes x index h. names_entry f t k facts listed n bytes x index h

pub returns-clause-themselves : goal.returns-clause-themselves
returns-clause-themselves c = λ beside f t k facts listed n bytes x index h. names_itself f t k facts listed n bytes x index h

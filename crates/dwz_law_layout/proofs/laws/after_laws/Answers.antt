use Rattle.dwz_law_layout.proofs.AfterLemmas.{entries_after, node_after}
use Rattle.dwz_law_layout.proofs.laws.after_laws.Goals as goal

pub returns-clause-node : goal.returns-clause-node
returns-clause-node c = λ image name d. node_after image name d

pub returns-clause-entries : goal.returns-clause-entries
returns-clause-entries c = λ image name g. entries_after image name g

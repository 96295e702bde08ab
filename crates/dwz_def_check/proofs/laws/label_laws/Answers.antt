use Rattle.dwz_def_check.proofs.CrossLooks.{equal_label, label_equal, label_node, node_label}
use Rattle.dwz_def_check.proofs.laws.label_laws.Goals as goal

pub returns-clause-tops : goal.returns-clause-tops
returns-clause-tops g c s t sides m n a b is js = (label_equal s t sides m n a b is js, equal_label s t sides m n a b is js)

pub returns-clause-lone : goal.returns-clause-lone
returns-clause-lone g c s t sides m n d e is js = (label_node s t sides m n d e is js, node_label s t sides m n d e is js)

use Rattle.dwz_def_check.proofs.CrossLooks.{alike_from, alike_to, cross_looks, lone_from, lone_to}
use Rattle.dwz_def_check.proofs.MadeNodes.{closed_nodes, made_nodes}
use Rattle.dwz_def_check.proofs.laws.cross_node_laws.Goals as goal

pub returns-clause-looks : goal.returns-clause-looks
returns-clause-looks g c s t nodes sides are k m n a b is js = cross_looks s t sides nodes are k m n a b is js

pub returns-clause-alike : goal.returns-clause-alike
returns-clause-alike g c s t nodes sides are m n a b is js = (alike_from s t sides nodes are m n a b is js, alike_to s t sides nodes are m n a b is js)

pub returns-clause-lone : goal.returns-clause-lone
returns-clause-lone g c s t nodes sides are m n d e is js = (lone_from s t sides nodes are m n d e is js, lone_to s t sides nodes are m n d e is js)

pub returns-clause-made : goal.returns-clause-made
returns-clause-made g c s t labels movable targets firsts nodes old new free first made = made_nodes labels movable targets firsts nodes free first made s t old new

pub returns-clause-closed : goal.returns-clause-closed
returns-clause-closed g c v w name other nodes sides are len = closed_nodes v w name other nodes sides are len

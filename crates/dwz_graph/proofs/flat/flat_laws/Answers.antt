use Rattle.dwz_graph.proofs.TreeLemmas.{nodes_many, nodes_map, tree_means, tree_refs}
use Rattle.dwz_graph.proofs.flat.flat_laws.Goals as goal

pub returns-clause-means : goal.returns-clause-means
returns-clause-means c = tree_means

pub returns-clause-refs : goal.returns-clause-refs
returns-clause-refs c = tree_refs

pub returns-clause-many : goal.returns-clause-many
returns-clause-many c = nodes_many

pub returns-clause-names : goal.returns-clause-names
returns-clause-names c = nodes_map

use Rattle.dwz_graph.proofs.TopNameLemmas.{each_named, means_units}
use Rattle.dwz_graph.proofs.tops.name_laws.Goals as goal

pub returns-clause-each : goal.returns-clause-each
returns-clause-each c = each_named

pub returns-clause-means : goal.returns-clause-means
returns-clause-means c = means_units

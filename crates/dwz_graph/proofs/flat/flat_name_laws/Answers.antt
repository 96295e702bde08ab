use Rattle.dwz_graph.proofs.NameLemmas.{places_target, targets_named}
use Rattle.dwz_graph.proofs.flat.flat_name_laws.Goals as goal

pub returns-clause-targets : goal.returns-clause-targets
returns-clause-targets c = places_target

pub returns-clause-named : goal.returns-clause-named
returns-clause-named c = targets_named

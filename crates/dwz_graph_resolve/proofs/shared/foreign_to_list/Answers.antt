use Rattle.dwz_graph_resolve.proofs.shared.foreign_to_list.Goals as goal

pub returns : goal.returns
returns c = λ top high rows own. c.foreign.ensures top high rows own

use Rattle.dwz_graph.proofs.StandLemmas.{stands_there}
use Rattle.dwz_move.proofs.standing.stand_laws.Goals as goal

pub returns : goal.returns
returns c = λ l bytes raw doc starts file t k x e reads once is got number shown. stands_there l bytes raw doc starts file t reads once is k x e got number shown

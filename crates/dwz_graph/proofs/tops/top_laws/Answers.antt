use Rattle.dwz_graph.proofs.ChainLemmas.{leads_out}
use Rattle.dwz_graph.proofs.TopNameLemmas.{read_whole}
use Rattle.dwz_graph.proofs.TopLemmas.{found, many, named}
use Rattle.dwz_graph.proofs.TopUnits.{shows}
use Rattle.dwz_graph.proofs.tops.top_laws.Goals as goal

pub returns-clause-many : goal.returns-clause-many
returns-clause-many c = λ starts units. many starts 0 units

pub returns-clause-named : goal.returns-clause-named
returns-clause-named c = λ l bytes raw doc starts k x reads. named starts doc.units (read_whole l bytes raw doc reads) k x

pub returns-clause-found : goal.returns-clause-found
returns-clause-found c = λ l bytes raw doc starts i n reads. found starts doc.units (read_whole l bytes raw doc reads) i n

pub returns-clause-shows : goal.returns-clause-shows
returns-clause-shows c = shows

pub returns-clause-spaces : goal.returns-clause-spaces
returns-clause-spaces c = leads_out

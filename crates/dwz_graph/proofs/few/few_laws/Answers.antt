use Rattle.dwz_graph.proofs.FilesFew.{all_few, all_small, file_small, names_few}
use Rattle.dwz_graph.proofs.few.few_laws.Goals as goal

pub returns-clause-entries : goal.returns-clause-entries
returns-clause-entries c = all_few

pub returns-clause-names : goal.returns-clause-names
returns-clause-names c = names_few

pub returns-clause-each : goal.returns-clause-each
returns-clause-each c = file_small

pub returns-clause-all : goal.returns-clause-all
returns-clause-all c = all_small

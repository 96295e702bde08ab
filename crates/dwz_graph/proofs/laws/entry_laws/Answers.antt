use Rattle.dwz_graph.proofs.FileEntries.{all_entries, few_entries, gives_top, names_entries, unit_of}
use Rattle.dwz_graph.proofs.laws.entry_laws.Goals as goal

pub returns-clause-entries : goal.returns-clause-entries
returns-clause-entries c = λ contents file bytes f x is. (all_entries contents file bytes f x is, few_entries contents file bytes f x is, names_entries contents file bytes f x is)

pub returns-clause-tops : goal.returns-clause-tops
returns-clause-tops c = gives_top

pub returns-clause-units : goal.returns-clause-units
returns-clause-units c = unit_of

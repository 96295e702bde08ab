use Rattle.dwz_graph.proofs.StepLemmas.{entry, no_row, no_value, row, sibling, value}
use Rattle.dwz_graph.proofs.flat.step_laws.Goals as goal

pub returns-clause-sibling : goal.returns-clause-sibling
returns-clause-sibling c = sibling

pub returns-clause-value : goal.returns-clause-value
returns-clause-value c = value

pub returns-clause-no_value : goal.returns-clause-no_value
returns-clause-no_value c = no_value

pub returns-clause-entry : goal.returns-clause-entry
returns-clause-entry c = entry

pub returns-clause-row : goal.returns-clause-row
returns-clause-row c = row

pub returns-clause-no_row : goal.returns-clause-no_row
returns-clause-no_row c = no_row

use Rattle.dwz_match.proofs.RowFacts.{match_law, rows_law}
use Rattle.dwz_match.proofs.laws.row_laws.Goals as goal

pub returns-clause-rows : goal.returns-clause-rows
returns-clause-rows c = rows_law

pub returns-clause-all : goal.returns-clause-all
returns-clause-all c = match_law

use Rattle.dwz_def_check.proofs.Decided.{rows_answer}
use Rattle.dwz_def_check.proofs.RowLemmas.{unit_rows}
use Rattle.dwz_def_check.proofs.laws.row_laws.Goals as goal

pub returns-clause-units : goal.returns-clause-units
returns-clause-units g c s t nodes classes sides are refined u x is js = unit_rows s t nodes classes sides are refined u x is js

pub returns-clause-answer : goal.returns-clause-answer
returns-clause-answer g c s t nodes classes sides are refined rows others h j = rows_answer s t nodes classes sides are refined rows others h j

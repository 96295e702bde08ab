use Rattle.dwz_def_reading.proofs.TextRowLemmas.{different_with, here_number, no_number, number_here, number_kept, number_nowhere, number_used, start_here}
use Rattle.dwz_def_reading.proofs.text_rows.text_row_laws.Goals as goal

pub returns-clause-number : goal.returns-clause-number
returns-clause-number c texts text n apart = (number_here texts text n, here_number texts text n apart)

pub returns-clause-absent : goal.returns-clause-absent
returns-clause-absent c texts text = (no_number texts text, number_nowhere texts text)

pub returns-clause-used : goal.returns-clause-used
returns-clause-used c = number_used

pub returns-clause-kept : goal.returns-clause-kept
returns-clause-kept c = number_kept

pub returns-clause-different : goal.returns-clause-different
returns-clause-different c = different_with

pub returns-clause-start : goal.returns-clause-start
returns-clause-start c = start_here

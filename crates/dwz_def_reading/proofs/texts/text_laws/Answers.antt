use Rattle.dwz_def_reading.proofs.TextLemmas.{here_text, none_again, none_begins, text_found, text_here, text_one, text_read_again}
use Rattle.std.proofs.Common.{drop}
use Rattle.dwz_def_reading.proofs.texts.text_laws.Goals as goal

pub returns-clause-here : goal.returns-clause-here
returns-clause-here c section text offset = (text_here section text offset, here_text section text offset)

pub returns-clause-none : goal.returns-clause-none
returns-clause-none c section offset = (none_begins (drop offset section), none_again (drop offset section))

pub returns-clause-found : goal.returns-clause-found
returns-clause-found c = text_found

pub returns-clause-again : goal.returns-clause-again
returns-clause-again c = text_read_again

pub returns-clause-one : goal.returns-clause-one
returns-clause-one c = text_one

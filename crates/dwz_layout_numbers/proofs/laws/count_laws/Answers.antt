use Rattle.dwz_layout_numbers.proofs.WholeLemmas.{all_inside, file_at, top_entries}
use Rattle.dwz_layout_numbers.proofs.OnceNames.{one_entry}
use Rattle.dwz_layout_numbers.proofs.laws.count_laws.Goals as goal

pub returns-clause-files : goal.returns-clause-files
returns-clause-files c = file_at

pub returns-clause-tops : goal.returns-clause-tops
returns-clause-tops c = top_entries

pub returns-clause-entries : goal.returns-clause-entries
returns-clause-entries c = all_inside

pub returns-clause-one : goal.returns-clause-one
returns-clause-one c = one_entry

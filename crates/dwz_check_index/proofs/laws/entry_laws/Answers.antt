use Rattle.dwz_check_index.proofs.EntryRows.{entry_rows}
use Rattle.dwz_check_index.proofs.laws.entry_laws.Goals as goal

pub returns : goal.returns
returns c = entry_rows

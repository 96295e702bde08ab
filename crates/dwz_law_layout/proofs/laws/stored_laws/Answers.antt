use Rattle.dwz_law_layout.proofs.RowsStored.{rows_stored}
use Rattle.dwz_law_layout.proofs.laws.stored_laws.Goals as goal

pub returns : goal.returns
returns c = λ abbrevs info mode raw forms is are i r found. rows_stored abbrevs info mode raw forms is are i r found

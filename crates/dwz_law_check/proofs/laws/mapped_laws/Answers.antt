use Rattle.dwz_law_check.proofs.MappedRows.{row_mapped, files_mapped}
use Rattle.dwz_law_check.proofs.laws.mapped_laws.Goals as goal

pub returns : goal.returns
returns c x = record { rows = row_mapped; files = files_mapped }

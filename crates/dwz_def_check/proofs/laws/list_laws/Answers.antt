use Rattle.dwz_def_check.proofs.ListedRows.{listed_row}
use Rattle.dwz_def_check.proofs.UnitNumbers.{type_path}
use Rattle.dwz_def_check.proofs.laws.list_laws.Goals as goal

pub returns-clause-rows : goal.returns-clause-rows
returns-clause-rows g c s classes keeps x parts read is imported plain = listed_row s classes keeps x parts read is imported plain

pub returns-clause-types : goal.returns-clause-types
returns-clause-types g c s read x is signature main kind = type_path s read x is signature main kind

use Rattle.dwz_law_layout.proofs.NamesOfEntries.{entry_named}
use Rattle.dwz_law_layout.proofs.RowsAlone.{rows_apart}
use Rattle.dwz_law_layout.proofs.NamesOfUnits.{all_named}
use Rattle.dwz_law_layout.proofs.laid.apart_laws.Goals as goal

pub returns-clause-entries : goal.returns-clause-entries
returns-clause-entries c = λ docs s there. entry_named docs s there

pub returns-clause-units : goal.returns-clause-units
returns-clause-units c = λ docs rule placed input f there u u_in. all_named docs rule placed input f there u u_in

pub returns-clause-rows : goal.returns-clause-rows
returns-clause-rows c = λ docs rule placed input keys k order files are many into. rows_apart docs rule placed input keys k order files are many into

use Rattle.dwz_law_layout.proofs.SpaceRows.{space_rows_shown, space_units}
use Rattle.dwz_law_layout.proofs.laid.space_laws.Goals as goal

pub returns-clause-rows : goal.returns-clause-rows
returns-clause-rows c = space_rows_shown

pub returns-clause-units : goal.returns-clause-units
returns-clause-units c = space_units

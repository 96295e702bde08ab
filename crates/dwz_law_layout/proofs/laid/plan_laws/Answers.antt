use Rattle.dwz_law_layout.proofs.PartUnits.{of_unit}
use Rattle.dwz_law_layout.proofs.Places.{part_places, stay_places, used_homes}
use Rattle.dwz_law_layout.proofs.RuleMoves.{moves_so}
use Rattle.dwz_law_layout.proofs.laid.plan_laws.Goals as goal

pub returns-clause-units : goal.returns-clause-units
returns-clause-units c = of_unit

pub returns-clause-moves : goal.returns-clause-moves
returns-clause-moves c = moves_so

pub returns-clause-places : goal.returns-clause-places
returns-clause-places c = part_places

pub returns-clause-stays : goal.returns-clause-stays
returns-clause-stays c = stay_places

pub returns-clause-used : goal.returns-clause-used
returns-clause-used c = used_homes

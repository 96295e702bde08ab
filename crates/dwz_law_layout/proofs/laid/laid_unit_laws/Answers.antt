use Rattle.dwz_law_layout.proofs.FileSpaces.{new_items, ways}
use Rattle.dwz_law_layout.proofs.OldItems.{old_items}
use Rattle.dwz_law_layout.proofs.SpaceStands.{space_stands}
use Rattle.dwz_law_layout.proofs.laid.laid_unit_laws.Goals as goal

pub returns-clause-old : goal.returns-clause-old
returns-clause-old c = old_items

pub returns-clause-ways : goal.returns-clause-ways
returns-clause-ways c = ways

pub returns-clause-new : goal.returns-clause-new
returns-clause-new c = new_items

pub returns-clause-spaces : goal.returns-clause-spaces
returns-clause-spaces c = space_stands

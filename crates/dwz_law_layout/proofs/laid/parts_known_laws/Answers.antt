use Rattle.dwz_law_layout.proofs.PartsKnown.{common_known, parts_known}
use Rattle.dwz_law_layout.proofs.laid.parts_known_laws.Goals as goal

pub returns-clause-file : goal.returns-clause-file
returns-clause-file c = parts_known

pub returns-clause-common : goal.returns-clause-common
returns-clause-common c = common_known

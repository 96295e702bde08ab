use Rattle.dwz_law_layout.proofs.UnitsKnown.{kept_known}
use Rattle.dwz_law_layout.proofs.laid.kept_known_laws.Goals as goal

pub returns : goal.returns
returns c = kept_known

use Rattle.dwz_match.proofs.BareLabels.{bare_law}
use Rattle.dwz_match.proofs.laws.bare_laws.Goals as goal

pub returns : goal.returns
returns c = bare_law

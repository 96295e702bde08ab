use Rattle.dwz_reuse.proofs.SpaceRows.{spaces_law}
use Rattle.dwz_reuse.proofs.laws.space_laws.Goals as goal

pub returns : goal.returns
returns c = spaces_law

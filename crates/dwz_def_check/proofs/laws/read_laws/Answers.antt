use Rattle.dwz_def_check.proofs.ReadSides.{well_read}
use Rattle.dwz_def_check.proofs.laws.read_laws.Goals as goal

pub returns : goal.returns
returns c = well_read

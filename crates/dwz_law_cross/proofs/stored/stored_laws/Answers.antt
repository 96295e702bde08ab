use Rattle.dwz_law_cross.proofs.OneRaw.{stored_once}
use Rattle.dwz_law_cross.proofs.stored.stored_laws.Goals as goal

pub returns : goal.returns
returns c = stored_once

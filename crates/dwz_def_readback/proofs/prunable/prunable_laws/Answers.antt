use Rattle.dwz_def_readback.proofs.PrunableDecided.{prunable_decided}
use Rattle.dwz_def_readback.proofs.prunable.prunable_laws.Goals as goal

pub returns : goal.returns
returns c = prunable_decided

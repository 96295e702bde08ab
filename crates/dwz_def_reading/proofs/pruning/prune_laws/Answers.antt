use Rattle.dwz_def_reading.proofs.PruneLemmas.{text_stays}
use Rattle.dwz_def_reading.proofs.pruning.prune_laws.Goals as goal

pub returns : goal.returns
returns c = record { text = text_stays }

use Rattle.dwz_def_reading.proofs.PatchedSets.{sets_length, sets_patched}
use Rattle.dwz_def_reading.proofs.patching.patched_range_laws.Goals as goal

pub returns-clause-spelled : goal.returns-clause-spelled
returns-clause-spelled g = sets_patched

pub returns-clause-len : goal.returns-clause-len
returns-clause-len g = sets_length

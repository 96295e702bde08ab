use Rattle.dwz_aranges.proofs.PatchedMeans.{patched_means}
use Rattle.dwz_aranges.proofs.laws.patched_laws.Goals as goal

pub returns : goal.returns
returns c = patched_means

use Rattle.dwz_expand_passes.proofs.FileLemmas.{file_law}
use Rattle.dwz_expand_passes.proofs.laws.file_laws.Goals as goal

pub returns : goal.returns
returns c = file_law

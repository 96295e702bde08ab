use Rattle.dwz_reuse.proofs.CommonRead.{read_law}
use Rattle.dwz_reuse.proofs.read_files.common_laws.Goals as goal

pub returns : goal.returns
returns c = read_law

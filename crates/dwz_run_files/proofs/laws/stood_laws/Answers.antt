use Rattle.dwz_run_files.proofs.FilesTexts.{stood}
use Rattle.dwz_run_files.proofs.laws.stood_laws.Goals as goal

pub returns : goal.returns
returns c = stood

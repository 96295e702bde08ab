use Rattle.dwz_def_over.proofs.AllOver.{can}
use Rattle.dwz_def_over.proofs.over.write_laws.Goals as goal

pub returns : goal.returns
returns c name o are w = can name o are w

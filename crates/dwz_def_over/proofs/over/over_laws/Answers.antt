use Rattle.dwz_def_over.proofs.AllOver.{read_back_over, tied_over}
use Rattle.dwz_def_over.proofs.TakenOver.{imports_law}
use Rattle.dwz_def_over.proofs.over.over_laws.Goals as goal

pub returns-clause-imports : goal.returns-clause-imports
returns-clause-imports c = imports_law

pub returns-clause-back : goal.returns-clause-back
returns-clause-back c name o are w = read_back_over name o are w

pub returns-clause-tied : goal.returns-clause-tied
returns-clause-tied c name o are w no_zero = tied_over name o are w no_zero

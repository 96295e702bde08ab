use Rattle.dwz_def_taken.proofs.FilesOver.{files_over}
use Rattle.dwz_def_taken.proofs.CommonParts.{takers_law}
use Rattle.dwz_def_taken.proofs.MovableAcross.{across_law}
use Rattle.dwz_def_taken.proofs.NamesOver.{named_over}
use Rattle.dwz_def_taken.proofs.taken.over_laws.Goals as goal

pub returns-clause-takers : goal.returns-clause-takers
returns-clause-takers c = takers_law

pub returns-clause-names : goal.returns-clause-names
returns-clause-names c = named_over

pub returns-clause-files : goal.returns-clause-files
returns-clause-files c = files_over

pub returns-clause-across : goal.returns-clause-across
returns-clause-across c = across_law

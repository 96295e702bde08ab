use Rattle.dwz_law_layout.proofs.FileFits.{files_fit}
use Rattle.dwz_law_layout.proofs.laws.files_laws.Goals as goal

pub returns : goal.returns
returns c = λ keys k here orders files known. files_fit keys k here orders files known

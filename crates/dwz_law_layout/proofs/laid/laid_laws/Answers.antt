use Rattle.dwz_law_layout.proofs.EntriesPlaced.{run_roots, run_self}
use Rattle.dwz_law_layout.proofs.FilesLaid.{run_places}
use Rattle.dwz_law_layout.proofs.SectionsLaid.{run_laid}
use Rattle.dwz_law_layout.proofs.laid.laid_laws.Goals as goal

pub returns-clause-sections : goal.returns-clause-sections
returns-clause-sections c = λ f k orders facts order. run_laid f k orders facts order

pub returns-clause-places : goal.returns-clause-places
returns-clause-places c = λ f k orders facts order i lt written. run_places f k orders facts order i lt written

pub returns-clause-itself : goal.returns-clause-itself
returns-clause-itself c = λ f t k orders facts listed order n bytes x index h changed i r d read itself. run_self f t k orders facts listed order n bytes x index h changed i r d read itself

pub returns-clause-roots : goal.returns-clause-roots
returns-clause-roots c = λ f facts i u nth. run_roots f facts i u nth

use Rattle.dwz_layout_numbers.proofs.ImageLemmas.{image_there, stand_inside, top_inside}
use Rattle.dwz_layout_numbers.proofs.ReferenceLemmas.{reference_named}
use Rattle.dwz_layout_numbers.proofs.laws.image_laws.Goals as goal

pub returns-clause-image : goal.returns-clause-image
returns-clause-image c = image_there

pub returns-clause-inside : goal.returns-clause-inside
returns-clause-inside c = λ docs m h top path n e. (let lt = top_inside docs top path n e in (lt, stand_inside docs m h top lt))

pub returns-clause-references : goal.returns-clause-references
returns-clause-references c = reference_named

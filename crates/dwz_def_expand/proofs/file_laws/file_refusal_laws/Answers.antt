use Rattle.dwz_def_expand.proofs.EitherOne.{either}
use Rattle.dwz_def_expand.proofs.OfSections.{of_section}
use Rattle.dwz_def_expand.proofs.OneRefusal.{one_refusal}
use Rattle.dwz_def_expand.proofs.file_laws.file_refusal_laws.Goals as goal

pub returns-clause-one : goal.returns-clause-one
returns-clause-one c = one_refusal

pub returns-clause-either : goal.returns-clause-either
returns-clause-either c = either

pub returns-clause-section : goal.returns-clause-section
returns-clause-section c = of_section

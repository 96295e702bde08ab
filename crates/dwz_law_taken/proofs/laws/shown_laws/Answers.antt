use Rattle.dwz_law_taken.proofs.KinFacts.{blocked_shown}
use Rattle.dwz_law_taken.proofs.ShownFacts.{image_shown, taken_shown, takes_shown}
use Rattle.dwz_law_taken.proofs.laws.shown_laws.Goals as goal

pub returns-clause-takes : goal.returns-clause-takes
returns-clause-takes c r name rows takes s h = takes_shown r name rows s takes h

pub returns-clause-taken : goal.returns-clause-taken
returns-clause-taken c r name rows s t i here = taken_shown r name rows s t here

pub returns-clause-images : goal.returns-clause-images
returns-clause-images c r name rows s t i here n h = image_shown r name rows s t here n h

pub returns-clause-blocked : goal.returns-clause-blocked
returns-clause-blocked c r kin images targets blocked s h = blocked_shown r kin images targets s blocked h

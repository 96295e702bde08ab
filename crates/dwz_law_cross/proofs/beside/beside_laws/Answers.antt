use Rattle.dwz_law_cross.proofs.BesideLemmas.{back_same}
use Rattle.dwz_law_cross.proofs.MeetLemmas.{meet, placed_for}
use Rattle.dwz_law_cross.proofs.beside.beside_laws.Goals as goal

pub returns-clause-back : goal.returns-clause-back
returns-clause-back c = back_same

pub returns-clause-meet : goal.returns-clause-meet
returns-clause-meet c = meet

pub returns-clause-places : goal.returns-clause-places
returns-clause-places c = placed_for

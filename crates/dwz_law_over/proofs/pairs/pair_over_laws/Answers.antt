use Rattle.dwz_law_over.proofs.MeetOver.{meet_over, same_meaning_over}
use Rattle.dwz_law_over.proofs.pairs.pair_over_laws.Goals as goal

pub returns-clause-same : goal.returns-clause-same
returns-clause-same c = same_meaning_over

pub returns-clause-meet : goal.returns-clause-meet
returns-clause-meet c = meet_over

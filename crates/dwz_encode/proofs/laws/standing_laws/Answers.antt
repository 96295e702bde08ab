use Rattle.dwz_encode.proofs.LawLemmas.{places_over, sections_over}
use Rattle.dwz_encode.proofs.StandingPlaces.{stand_behind}
use Rattle.dwz_encode.proofs.laws.standing_laws.Goals as goal

pub returns-clause-sections : goal.returns-clause-sections
returns-clause-sections c = sections_over

pub returns-clause-places : goal.returns-clause-places
returns-clause-places c = places_over

pub returns-clause-numbers : goal.returns-clause-numbers
returns-clause-numbers c = stand_behind

use Rattle.dwz_encode.proofs.LawLemmas.{places_are, sections_are}
use Rattle.dwz_encode.proofs.laws.layout_laws.Goals as goal

pub returns-clause-sections : goal.returns-clause-sections
returns-clause-sections c = sections_are

pub returns-clause-places : goal.returns-clause-places
returns-clause-places c = places_are

use Rattle.dwz_bytes.specs.Reading.{uleb_at}
use Rattle.dwz_bytes.specs.Spelling.{fits_u64, groups_value}
use Rattle.dwz_bytes.proofs.LebLemmas.{leb_again, leb_found, leb_one, leb_short, leb_wide}
use Rattle.dwz_bytes.proofs.PaddedLemmas.{padded_spells, uleb_shortest, uleb_spells}
use Rattle.dwz_bytes.proofs.laws.uleb_laws.Goals as goal

pub returns-clause-found : goal.returns-clause-found
unfolding uleb_at
returns-clause-found c = leb_found groups_value fits_u64

pub returns-clause-again : goal.returns-clause-again
unfolding uleb_at
returns-clause-again c = leb_again groups_value fits_u64

pub returns-clause-one : goal.returns-clause-one
returns-clause-one c = leb_one groups_value fits_u64

pub returns-clause-written : goal.returns-clause-written
returns-clause-written c = uleb_spells

pub returns-clause-shortest : goal.returns-clause-shortest
returns-clause-shortest c = uleb_shortest

pub returns-clause-padded : goal.returns-clause-padded
returns-clause-padded c = padded_spells

pub returns-clause-short : goal.returns-clause-short
unfolding uleb_at
returns-clause-short c = leb_short groups_value fits_u64

pub returns-clause-wide : goal.returns-clause-wide
unfolding uleb_at
returns-clause-wide c = leb_wide groups_value fits_u64

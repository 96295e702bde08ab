use Rattle.dwz_bytes.specs.Reading.{sleb_at}
use Rattle.dwz_bytes.specs.Spelling.{fits_i64, signed_value}
use Rattle.dwz_bytes.proofs.LebLemmas.{leb_again, leb_found, leb_one, leb_short, leb_wide}
use Rattle.dwz_bytes.proofs.SignedLemmas.{sleb_shortest, sleb_spells}
use Rattle.dwz_bytes.proofs.laws.sleb_laws.Goals as goal

pub returns-clause-found : goal.returns-clause-found
unfolding sleb_at
returns-clause-found c = leb_found signed_value fits_i64

pub returns-clause-again : goal.returns-clause-again
unfolding sleb_at
returns-clause-again c = leb_again signed_value fits_i64

pub returns-clause-one : goal.returns-clause-one
returns-clause-one c = leb_one signed_value fits_i64

pub returns-clause-written : goal.returns-clause-written
returns-clause-written c = sleb_spells

pub returns-clause-shortest : goal.returns-clause-shortest
returns-clause-shortest c = sleb_shortest

pub returns-clause-short : goal.returns-clause-short
unfolding sleb_at
returns-clause-short c = leb_short signed_value fits_i64

pub returns-clause-wide : goal.returns-clause-wide
unfolding sleb_at
returns-clause-wide c = leb_wide signed_value fits_i64

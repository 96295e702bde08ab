use Rattle.std.proofs.Common.{ℕ, Option}
use Rattle.dwz_def_reading.specs.Entries.{RawEntry, SpellsFront, front_at}
use Rattle.dwz_def_reading.proofs.EntryLemmas.{front_again, front_found, some_front}
use Rattle.dwz_def_reading.proofs.FrontFaults.{front_fails_so, front_fault}
use Rattle.dwz_def_reading.proofs.UnitReads.{again_one}
use Rattle.dwz_def_reading.proofs.entries.entry_laws.Goals as goal

pub returns-clause-found : goal.returns-clause-found
returns-clause-found c context p i j o e =
    let t = front_found context p i j o e in
    record { front = t.bytes; spelled = t.spelled; parts = t.takes.parts; place = t.takes.place }

pub returns-clause-again : goal.returns-clause-again
returns-clause-again c context p at o front rest is = front_again context p at o front rest is

pub returns-clause-one : goal.returns-clause-one
returns-clause-one c context p = again_one (λ (o : Option RawEntry) (at : ℕ). SpellsFront context p at o) (front_at context p) (λ at o front rest is. front_again context p at o front rest is)

pub returns-clause-some : goal.returns-clause-some
returns-clause-some c = some_front

pub returns-clause-fault : goal.returns-clause-fault
returns-clause-fault c context p i f = (front_fault context p i f, front_fails_so context p i.at i.rest f)

use Rattle.dwz_def_reading.specs.Entries.{SpellsAttrs, attrs_at}
use Rattle.dwz_def_reading.proofs.AttrReads.{attrs_again, attrs_fault, attrs_fault_again, attrs_found}
use Rattle.dwz_def_reading.proofs.UnitReads.{again_one}
use Rattle.dwz_def_reading.proofs.entries.attrs_laws.Goals as goal

pub returns-clause-found : goal.returns-clause-found
returns-clause-found c rows entry pairs i j attrs e =
    let t = attrs_found rows pairs entry i j attrs e in
    record { front = t.bytes; spelled = t.spelled; parts = t.takes.parts; place = t.takes.place }

pub returns-clause-again : goal.returns-clause-again
returns-clause-again c rows entry pairs at attrs front rest is = attrs_again rows pairs attrs entry at front rest is

pub returns-clause-one : goal.returns-clause-one
returns-clause-one c rows pairs = again_one (SpellsAttrs rows pairs) (attrs_at rows 0 pairs) (λ at attrs front rest is. attrs_again rows pairs attrs 0 at front rest is)

pub returns-clause-fault : goal.returns-clause-fault
returns-clause-fault c rows entry pairs i f = (attrs_fault rows pairs entry i f, attrs_fault_again rows entry pairs i.at i.rest f)

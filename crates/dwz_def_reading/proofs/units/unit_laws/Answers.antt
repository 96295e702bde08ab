use Rattle.dwz_def_reading.specs.Units.{SpellsUnit, unit_at}
use Rattle.dwz_def_reading.proofs.UnitLemmas.{unit_again, unit_fault, unit_fault_again, unit_found}
use Rattle.dwz_def_reading.proofs.UnitListLemmas.{units_again, units_fault, units_fault_again, units_found, units_one, units_step}
use Rattle.dwz_def_reading.proofs.UnitReads.{again_one, entry_reads}
use Rattle.dwz_def_reading.proofs.units.unit_laws.Goals as goal

pub returns-clause-found : goal.returns-clause-found
returns-clause-found c abbrevs mode before i j u e =
    let t = unit_found abbrevs mode before i u j e in
    record { front = t.bytes; spelled = t.spelled; parts = t.takes.parts; place = t.takes.place }

pub returns-clause-again : goal.returns-clause-again
returns-clause-again c abbrevs mode before at u front rest is = unit_again abbrevs mode before u at front rest is

pub returns-clause-one : goal.returns-clause-one
returns-clause-one c abbrevs mode before =
    again_one (SpellsUnit abbrevs mode before) (unit_at abbrevs mode before) (λ at u front rest is. unit_again abbrevs mode before u at front rest is)

pub returns-clause-fault : goal.returns-clause-fault
returns-clause-fault c abbrevs mode before i f = (unit_fault abbrevs mode before i f, unit_fault_again abbrevs mode before i f)

pub returns-clause-each : goal.returns-clause-each
returns-clause-each c = entry_reads

pub returns-clause-units_found : goal.returns-clause-units_found
returns-clause-units_found c = units_found

pub returns-clause-units_again : goal.returns-clause-units_again
returns-clause-units_again c abbrevs mode before at units bytes is = units_again abbrevs mode before units at bytes is

pub returns-clause-units_one : goal.returns-clause-units_one
returns-clause-units_one c = units_one

pub returns-clause-units_fault : goal.returns-clause-units_fault
returns-clause-units_fault c abbrevs mode before i f = (units_fault abbrevs mode before i f, units_fault_again abbrevs mode before i.at i.rest f)

pub returns-clause-units_step : goal.returns-clause-units_step
returns-clause-units_step c = units_step

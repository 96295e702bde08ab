use Rattle.std.proofs.Common.{ap, Err, sym, ◌∙◌}
use Rattle.dwz_model.specs.declared.fault.Fault.{Fault}
use Rattle.dwz_def_reading.proofs.TableLemmas.{fault_here, here_fault, here_table, table_again, table_found, table_here, table_one}
use Rattle.dwz_def_reading.proofs.FitLemmas.{table_fits, table_written}
use Rattle.dwz_def_reading.proofs.abbrevs.table_laws.Goals as goal

pub returns-clause-found : goal.returns-clause-found
returns-clause-found c = table_found

pub returns-clause-again : goal.returns-clause-again
returns-clause-again c = table_again

pub returns-clause-one : goal.returns-clause-one
returns-clause-one c = table_one

pub returns-clause-here : goal.returns-clause-here
returns-clause-here c section at table = (table_here section at table, here_table section at table)

pub returns-clause-fault : goal.returns-clause-fault
returns-clause-fault c section at f = (fault_here section at f, λ is. here_fault section at is.0 is.2 ∙ ap (λ (g : Fault). Err g) (sym is.1))

pub returns-clause-written : goal.returns-clause-written
returns-clause-written c = table_written

pub returns-clause-fits : goal.returns-clause-fits
returns-clause-fits c = table_fits

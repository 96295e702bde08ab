use Rattle.dwz_def_reading.specs.Values.{shape_of}
use Rattle.dwz_def_reading.proofs.ValueLemmas.{shape_laws}
use Rattle.dwz_def_reading.proofs.WrittenLemmas.{read_writable, value_written}
use Rattle.dwz_def_reading.proofs.values.value_laws.Goals as goal

pub returns-clause-found : goal.returns-clause-found
returns-clause-found c rows pair = (shape_laws (shape_of rows pair.form) pair).found

pub returns-clause-again : goal.returns-clause-again
returns-clause-again c rows pair = (shape_laws (shape_of rows pair.form) pair).again

pub returns-clause-one : goal.returns-clause-one
returns-clause-one c rows pair = (shape_laws (shape_of rows pair.form) pair).one

pub returns-clause-fault : goal.returns-clause-fault
returns-clause-fault c rows pair = (shape_laws (shape_of rows pair.form) pair).fault

pub returns-clause-written : goal.returns-clause-written
returns-clause-written c = value_written

pub returns-clause-kept : goal.returns-clause-kept
returns-clause-kept c = read_writable

use Rattle.dwz_def_reading.proofs.AgreeLemmas.{same_meaning}
use Rattle.dwz_def_reading.proofs.LineTableLemmas.{file_table_agrees}
use Rattle.dwz_def_reading.proofs.line_tables.line_laws.Goals as goal

pub returns-clause-read : goal.returns-clause-read
returns-clause-read c s line place = (file_table_agrees s line place).ok

pub returns-clause-fault : goal.returns-clause-fault
returns-clause-fault c s line place = (file_table_agrees s line place).err

pub returns-clause-one : goal.returns-clause-one
returns-clause-one c s line place = same_meaning (file_table_agrees s line place)

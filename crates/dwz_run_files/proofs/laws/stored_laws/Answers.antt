use Rattle.dwz_run_files.proofs.FilesStored.{as_many, file_at, are_stored, read_so}
use Rattle.dwz_run_files.proofs.laws.stored_laws.Goals as goal

pub returns-clause-read : goal.returns-clause-read
returns-clause-read c = λ contents files flags are kept prunable. read_so contents files flags are kept prunable

pub returns-clause-stored : goal.returns-clause-stored
returns-clause-stored c = λ beside f flags kept input. are_stored beside f flags kept input

pub returns-clause-many : goal.returns-clause-many
returns-clause-many c = λ contents files kept. as_many contents files kept

pub returns-clause-file : goal.returns-clause-file
returns-clause-file c = λ beside f kept indexed n less. file_at beside f kept indexed n less

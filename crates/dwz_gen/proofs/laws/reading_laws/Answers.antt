use Rattle.dwz_gen.proofs.ReadsLemmas.{no_fault, table_read}
use Rattle.dwz_gen.proofs.laws.reading_laws.Goals as goal

pub returns-clause-elf : goal.returns-clause-elf
returns-clause-elf c = no_fault

pub returns-clause-table : goal.returns-clause-table
returns-clause-table c = table_read

use Rattle.dwz_def_reading.proofs.ElfBackLemmas.{back_by_itself}
use Rattle.dwz_def_reading.proofs.ElfFaultLemmas.{elf_is_sound}
use Rattle.dwz_def_reading.proofs.ElfFirst.{first_is_one}
use Rattle.dwz_def_reading.proofs.elf_faults.elf_fault_laws.Goals as goal

pub returns-clause-first : goal.returns-clause-first
returns-clause-first c m bytes f = (elf_is_sound m bytes).first f

pub returns-clause-none : goal.returns-clause-none
returns-clause-none c m bytes f is_none = (elf_is_sound m bytes).none is_none f

pub returns-clause-one : goal.returns-clause-one
returns-clause-one c = first_is_one

pub returns-clause-back : goal.returns-clause-back
returns-clause-back c = back_by_itself

-- How a file is read.
use Rattle.std.specs.Prelude.{ℕ, List, Option}
use Rattle.dwz_model.specs.declared.fault.Fault.{Fault}
use Rattle.dwz_def_reading.specs.ElfFaults.{ElfManner}
use Rattle.dwz_def_reading.specs.Entries.{Mode}
use Rattle.dwz_def_reading.specs.Meanings.{Around}
use Rattle.dwz_def_reading.specs.Units.{RawUnit}

-- A rule by which a file is read: in what manner its ELF headers are; what is wrong with its `.debug_sup` (7.3.6), if something is; which
-- units and forms are read, where so many entries may still come; and what surrounds its units.
pub record ReadingRule (P : Type 0) : Type 0 where
  pub manner : ElfManner
  pub sup_fault : List ℕ → Option Fault
  pub mode : ℕ → Mode
  pub around : List ℕ → List RawUnit → Around P

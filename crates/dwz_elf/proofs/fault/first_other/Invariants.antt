use Rattle.std.proofs.Common.{◌≡◌, drop}
use Rattle.dwz_def_reading.specs.ElfReading.{first_other}
use Rattle.dwz_elf.proofs.fault.first_other.Given as goal

abbrev pub invariant-loop-at : goal.invariant-loop-at
invariant-loop-at l = first_other l.at (drop l.at l.wanted) (drop l.at l.bytes) ≡ first_other 0 l.wanted l.bytes

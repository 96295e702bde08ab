use Rattle.std.proofs.Common.{◌≡◌, drop}
use Rattle.dwz_def_reading.specs.ElfReading.{range_in}
use Rattle.dwz_elf.proofs.elf.first_range.Given as goal

abbrev pub invariant-loop-section : goal.invariant-loop-section
invariant-loop-section l = range_in (drop l.section-index l.sections) l.code ≡ range_in l.sections l.code

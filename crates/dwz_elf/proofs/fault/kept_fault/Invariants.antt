use Rattle.std.proofs.Common.{◌≡◌, [], drop, take}
use Rattle.dwz_def_reading.specs.ElfReading.{first_in, unkept_fault_for}
use Rattle.dwz_elf.specs.Manners.{manner_of}
use Rattle.dwz_elf.proofs.fault.kept_fault.Given as goal

abbrev pub invariant-loop-section : goal.invariant-loop-section
invariant-loop-section l =
    first_in (λ before. unkept_fault_for (manner_of l.manner) l.sections) (take l.section-index l.sections) (drop l.section-index l.sections)
    ≡ first_in (λ before. unkept_fault_for (manner_of l.manner) l.sections) [] l.sections

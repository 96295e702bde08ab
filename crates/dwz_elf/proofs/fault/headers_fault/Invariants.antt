use Rattle.std.proofs.Common.{◌≡◌, [], drop, take}
use Rattle.dwz_def_reading.specs.ElfReading.{first_in, header_fault}
use Rattle.dwz_elf.proofs.fault.headers_fault.Given as goal

abbrev pub invariant-loop-index : goal.invariant-loop-index
invariant-loop-index l =
    first_in (header_fault l.len l.names) (take l.index l.sections) (drop l.index l.sections) ≡ first_in (header_fault l.len l.names) [] l.sections

use Rattle.std.proofs.Common.{◌≡◌, [], drop, take}
use Rattle.dwz_def_reading.specs.ElfLayout.{inside_fault}
use Rattle.dwz_def_reading.specs.ElfReading.{first_in}
use Rattle.dwz_elf.specs.Rebuilds.{changes_of}
use Rattle.dwz_elf.proofs.layout.layout_fault.Given as goal

abbrev pub invariant-loop-index : goal.invariant-loop-index
invariant-loop-index l =
    first_in (inside_fault l.elf (changes_of l.edits)) (take l.index l.sections) (drop l.index l.sections)
    ≡ first_in (inside_fault l.elf (changes_of l.edits)) [] l.sections

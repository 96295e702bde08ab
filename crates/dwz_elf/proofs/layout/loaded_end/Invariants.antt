use Rattle.std.proofs.Common.{◌≡◌, drop, max}
use Rattle.dwz_def_reading.specs.ElfLayout
use Rattle.dwz_elf.proofs.layout.loaded_end.Given as goal

abbrev pub invariant-loop-section : goal.invariant-loop-section
invariant-loop-section l = max l.last (ElfLayout.loaded_end (drop l.section-index l.sections)) ≡ ElfLayout.loaded_end l.sections

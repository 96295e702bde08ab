use Rattle.std.proofs.Common.{◌≡◌, ◌++◌, drop}
use Rattle.dwz_def_reading.specs.ElfLayout
use Rattle.dwz_elf.proofs.layout.moving_sections.Given as goal

abbrev pub invariant-loop-index : goal.invariant-loop-index
invariant-loop-index l = l.keys.items ++ ElfLayout.moving l.keep l.index (drop l.index l.sections) ≡ ElfLayout.moving l.keep 0 l.sections

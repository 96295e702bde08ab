use Rattle.std.proofs.Common.{◌≡◌, drop, List, map}
use Rattle.std.specs.List.{list_any}
use Rattle.dwz_def_reading.specs.declared.elf.Header.{Header}
use Rattle.dwz_def_reading.specs.ElfNames.{section_named}
use Rattle.dwz_elf.specs.Names.{is_there_called}
use Rattle.dwz_elf.proofs.elf.any_called.Given as goal

abbrev pub invariant-loop-section : goal.invariant-loop-section
invariant-loop-section l = (headers : List Header) → l.sections ≡ map (section_named l.table) headers
    → list_any (is_there_called l.table l.name) headers ≡ list_any (is_there_called l.table l.name) (drop l.section-index headers)

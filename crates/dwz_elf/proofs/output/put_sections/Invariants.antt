use Rattle.std.proofs.Common.{◌≡◌, ◌++◌, drop}
use Rattle.dwz_def_reading.specs.ElfLayout
use Rattle.dwz_elf.specs.Rebuilds.{changes_of}
use Rattle.dwz_elf.proofs.output.put_sections.Given as goal

abbrev pub invariant-loop-section : goal.invariant-loop-section
invariant-loop-section l =
    l.out.items ++ ElfLayout.spread (ElfLayout.content_at l.elf (changes_of l.edits) l.input) l.end (drop l.section-index l.moved)
    ≡ l.initial.out.items ++ ElfLayout.spread (ElfLayout.content_at l.elf (changes_of l.edits) l.input) l.keep l.moved

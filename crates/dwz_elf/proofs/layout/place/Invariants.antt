use Rattle.std.proofs.Common.{drop}
use Rattle.dwz_def_reading.specs.ElfLayout
use Rattle.dwz_elf.specs.Rebuilds.{changes_of}
use Rattle.dwz_elf.specs.Places.{IsPlacedUpTo}
use Rattle.dwz_elf.proofs.layout.place.Given as goal

abbrev pub invariant-loop-key : goal.invariant-loop-key
invariant-loop-key l = IsPlacedUpTo l.elf (ElfLayout.content_at l.elf (changes_of l.edits) l.input) l.keep l.order l.end l.moved.items (drop l.key-index l.order)

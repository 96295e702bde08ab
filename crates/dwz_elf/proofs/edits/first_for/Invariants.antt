use Rattle.std.proofs.Common.{◌≡◌, drop}
use Rattle.dwz_def_reading.specs.ElfLayout.{content_for}
use Rattle.dwz_elf.proofs.edits.first_for.Given as goal

abbrev pub invariant-loop-content : goal.invariant-loop-content
invariant-loop-content l = content_for (drop l.content-index l.replaced) l.code ≡ content_for l.replaced l.code

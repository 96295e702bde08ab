-- Inner: New bytes for a section of a file.
use Rattle.std.specs.Prelude.{ℕ, List, ◌++◌, Option, Some, None, IsSome}
use Rattle.dwz_def_reading.specs.ElfReading.{ElfView, section_range}
use Rattle.dwz_elf.specs.Rebuilds.{RebuildView}
use Rattle.dwz_def_output.specs.Changed.{if_new}

-- the section for which there are new bytes is there
abbrev pub IsThere : ElfView → ℕ → Option (List ℕ) → Type 0
IsThere e code None = Unit {0}
IsThere e code (Some bytes) = IsSome (section_range e.sections code)

-- the same with new bytes for the section with that code, if there are some
abbrev pub given : ℕ → Option (List ℕ) → RebuildView → RebuildView
given code bytes r = record { elf = r.elf; changes = record { new = if_new code bytes ++ r.changes.new; sup = r.changes.sup } }

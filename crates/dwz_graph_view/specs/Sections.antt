-- Sections of files.
use Rattle.std.specs.Prelude.{ℕ, Bool, List, Option, take, drop, slice_get}
use Rattle.std.specs.List.{list_any}
use Rattle.std.specs.Option.{option_and_then, option_map}
use Rattle.dwz_def_reading.specs.ElfHeaders.{headers_in}
use Rattle.dwz_def_reading.specs.ElfNames.{name_table, sections_in}
use Rattle.dwz_def_reading.specs.ElfReading.{section_range}
use Rattle.dwz_elf.specs.Names.{is_there_called}

-- the bytes of the section with a code, where the file has one: those of its range
abbrev pub section_in : ℕ → List ℕ → Option (List ℕ)
section_in code bytes = option_map (λ range. take range.1 (drop range.0 bytes)) (section_range (sections_in bytes) code)

-- that of the file with a number
abbrev pub section_at : List (List ℕ) → ℕ → ℕ → Option (List ℕ)
section_at contents file code = option_and_then (section_in code) (slice_get contents file)

-- one of its sections has that name, and a content
abbrev pub has_named : List ℕ → List ℕ → Bool
has_named name bytes = list_any (is_there_called (name_table bytes) name) (headers_in bytes)

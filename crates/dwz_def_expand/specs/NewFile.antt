-- The whole file that is written of one without its partial units, and what refuses it.
use Rattle.std.specs.Prelude.{◌≡◌, ℕ, ◌+◌, ◌-◌, ◌≤◌, List, None, Some}
use Rattle.dwz_def_reading.specs.Fault.{Fault}
use Rattle.dwz_def_reading.specs.Refusal.{Refusal}
use Rattle.dwz_def_reading.specs.Sections.{Sections}
use Rattle.dwz_def_reading.specs.ElfHeaders.{file_header}
use Rattle.dwz_def_reading.specs.ElfLayout.{layout_fault, rebuilt_length, too_large}
use Rattle.dwz_def_reading.specs.ElfReading.{elf_of}
use Rattle.dwz_def_reading.specs.FirstOf.{OrElse}
use Rattle.dwz_def_output.specs.Changed.{changes_by}
use Rattle.dwz_def_output.specs.FilesAfter.{order_of}
use Rattle.dwz_def_output.specs.Rebuilt.{new_file}
use Rattle.dwz_def_output.specs.Refusals.{InFile, too_large_at}
use Rattle.dwz_def_expand.specs.Dropped.{table_place, without_sup}
use Rattle.dwz_def_expand.specs.OneFile.{OneFile}
use Rattle.dwz_def_expand.specs.Output.{ExpandRefusal, new_sections}

-- ---- a file without `.debug_sup` (7.3.6), and with new sections

unfoldable pub file_with : List ℕ → Sections → List ℕ
file_with input s = new_file (without_sup input) (changes_by s None) (order_of (elf_of (without_sup input)))

-- The place of a section header in the file, by its place in the file without `.debug_sup`: it has the same number.
abbrev pub header_place : List ℕ → ℕ → ℕ
header_place input at = (file_header input).headers_at + (at - table_place input)

abbrev pub at_header : List ℕ → Fault → Fault
at_header input f = record { section = f.section; at = header_place input f.at; reason = f.reason }

-- a section can't be laid out around the loaded bytes, the first that can't
abbrev pub IsUnplaced : List ℕ → Sections → Fault → Type 0
IsUnplaced input s f =
    (inside : Fault) × (layout_fault (elf_of (without_sup input)) (changes_by s None) ≡ Some inside) × (f ≡ at_header input inside)

abbrev pub length_with : List ℕ → Sections → ℕ
length_with input s =
    rebuilt_length (elf_of (without_sup input)) (changes_by s None) (without_sup input) (order_of (elf_of (without_sup input)))

abbrev pub IsLargeFile : List ℕ → Sections → Fault → Type 0
IsLargeFile input s f = (f ≡ too_large_at 0) × (too_large ≤ length_with input s)

-- the first section that can't be laid out; or else the file is too large
abbrev pub FileFault : List ℕ → Sections → Fault → Type 0
FileFault input s = OrElse (IsUnplaced input s) (IsLargeFile input s)

-- ---- of a file that reads

abbrev pub expanded_bytes : OneFile → List ℕ
expanded_bytes f = file_with f.file.bytes (new_sections f)

-- The first refusal: of a value, of an operand or of a section; or else of the file.
abbrev pub NewRefusal : OneFile → Refusal → Type 0
NewRefusal f = OrElse (ExpandRefusal f) (InFile (λ file. FileFault f.file.bytes (new_sections f)) 0)

-- A file of which `.debug_sup` (7.3.6) isn't kept: where it is made anew, the header of that section is 64 zero bytes, and its content isn't
-- written.
use Rattle.std.specs.Prelude.{ℕ, max, List, [], ◌∷◌, ◌++◌, length, take, drop, replicate, if◌then◌else◌}
use Rattle.dwz_def_reading.specs.declared.elf.Section.{Section}
use Rattle.dwz_def_reading.specs.ElfHeaders.{file_header}
use Rattle.dwz_def_reading.specs.ElfLayout.{keep_end, new_front}
use Rattle.dwz_def_reading.specs.ElfNames.{sections_in}
use Rattle.dwz_def_reading.specs.ElfReading.{elf_of, has_code}

-- a section header, where that of `.debug_sup` is zero bytes
abbrev pub header_without : List ℕ → Section → List ℕ
header_without input s = if has_code 9 s then replicate 64 0 else take 64 (drop s.header.at input)

unfoldable pub headers_without : List ℕ → List Section → List ℕ
headers_without input [] = []
headers_without input (s ∷ sections) = header_without input s ++ headers_without input sections

-- behind the file, and behind what is kept of it
abbrev pub table_place : List ℕ → ℕ
table_place input = max (length input) (keep_end (elf_of input))

-- The file with these headers there: no section has bytes in them.
unfoldable pub without_sup : List ℕ → List ℕ
without_sup input =
    new_front (table_place input) (table_place input) (file_header input).headers input ++ headers_without input (sections_in input)

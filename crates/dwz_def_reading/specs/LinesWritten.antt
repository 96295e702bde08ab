-- The header of a line table that is written (DWARF 5, 6.2.4): it has no program, and its files are these paths.
use Rattle.std.specs.Prelude.{ℕ, List, [], ◌∷◌, ◌++◌, length}
use Rattle.dwz_bytes.specs.Spelling.{le_bytes, uleb}
use Rattle.dwz_def_reading.specs.Texts.{NoZero}

-- minimum_instruction_length, maximum_operations_per_instruction, default_is_stmt, line_base (-5), line_range, opcode_base, and the
-- lengths of the twelve standard opcodes
unfoldable pub standard : List ℕ
standard = 0x01 ∷ 0x01 ∷ 0x01 ∷ 0xfb ∷ 0x0e ∷ 0x0d ∷ 0x00 ∷ 0x01 ∷ 0x01 ∷ 0x01 ∷ 0x01 ∷ 0x00 ∷ 0x00 ∷ 0x00 ∷ 0x01 ∷ 0x00 ∷ 0x00 ∷ 0x01 ∷ []

-- one directory, whose path is a text that stands there and is empty
unfoldable pub one_directory : List ℕ
one_directory = 0x01 ∷ 0x01 ∷ 0x08 ∷ 0x01 ∷ 0x00 ∷ []

-- files consist of a path that stands there and a directory's index, a ULEB128 number
unfoldable pub file_formats : List ℕ
file_formats = 0x02 ∷ 0x01 ∷ 0x08 ∷ 0x02 ∷ 0x0f ∷ []

-- each path, the zero byte that ends it, and directory 0
unfoldable pub rows_bytes : List (List ℕ) → List ℕ
rows_bytes [] = []
rows_bytes (path ∷ paths) = (path ++ 0 ∷ 0 ∷ []) ++ rows_bytes paths

-- the first path is also row 0, so that the paths are numbered from 1
abbrev pub with_row_0 : List (List ℕ) → List (List ℕ)
with_row_0 [] = []
with_row_0 (path ∷ paths) = path ∷ path ∷ paths

-- what header_length counts
abbrev pub tables_written : List (List ℕ) → List ℕ
tables_written paths = ((standard ++ one_directory) ++ file_formats) ++ (uleb (length (with_row_0 paths)) ++ rows_bytes (with_row_0 paths))

-- version 5, address_size, segment_selector_size, header_length
abbrev pub behind_length : List ℕ → List ℕ
behind_length tables = (le_bytes 2 5 ++ (8 ∷ 0 ∷ [] ++ le_bytes 4 (length tables))) ++ tables

-- unit_length, and what it counts
abbrev pub header_written : List (List ℕ) → List ℕ
header_written paths = le_bytes 4 (length (behind_length (tables_written paths))) ++ behind_length (tables_written paths)

-- none of the paths has a zero byte
abbrev pub AreTexts : List (List ℕ) → Type 0
AreTexts [] = Unit {0}
AreTexts (path ∷ paths) = NoZero path × AreTexts paths

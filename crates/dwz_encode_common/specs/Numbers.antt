-- For each value that is the number of a file (DWARF 5, 2.14), the number of its path in the line table of the common file.
use Rattle.std.specs.Prelude.{◌≡◌, ℕ, ◌+◌, true, List, [], ◌∷◌, Option, None, Some, if◌then◌else◌}
use Rattle.std.specs.List.{flat_map}
use Rattle.std.specs.Option.{option_to_list}
use Rattle.dwz_def_reading.specs.Entries.{RawAttr}
use Rattle.dwz_def_reading.specs.Documents.{Plain}
use Rattle.dwz_def_reading.specs.LineTables.{FileTable}
use Rattle.dwz_def_reading.specs.Meanings.{number_of}
use Rattle.dwz_unit.specs.Rows.{EntryRow, rows_of, units_of}
use Rattle.dwz_graph.specs.declared.file.File.{File}
use Rattle.dwz_layout_numbers.specs.Befores.{is_pair_file}
use Rattle.dwz_def_encoding.specs.Placing.{file_number, has_text, path_index}
use Rattle.dwz_encode_common.specs.Gathered.{path_by}
use Rattle.dwz_encode_common.specs.Paths.{line_of, path_in}

-- paths are numbered from 1; no file has 0, and so has a path that isn't there
abbrev pub number_in : List (List ℕ) → Option (List ℕ) → ℕ
number_in paths None = 0
number_in paths (Some path) = if has_text paths path then path_index paths path + 1 else 0

-- that of a value, if it is the number of a file
abbrev pub number_read : List (List ℕ) → List FileTable → Option ℕ → RawAttr → List ℕ
number_read paths tables line a = if is_pair_file a.pair then number_in paths (path_in tables line (number_of a.raw)) ∷ [] else []

-- those of an entry, and those of a file, entry by entry, in preorder
abbrev pub row_numbers : List (List ℕ) → File → EntryRow → List ℕ
row_numbers paths x r = flat_map (number_read paths x.resolved.tables.items (line_of x r.unit)) r.entry.attrs

abbrev pub numbers_in_file : List (List ℕ) → File → List ℕ
numbers_in_file paths x = flat_map (row_numbers paths x) (rows_of (units_of x.units))

-- It is the number that the definition of forms gives the value in a unit of the common file, where its path is among these.
abbrev pub NumberLaw : Type 0
NumberLaw =
    (paths : List (List ℕ)) (path : Option (List ℕ)) (plain : Plain) → option_to_list path ≡ path_by plain
    → ((p : List ℕ) → path ≡ Some p → has_text paths p ≡ true) → number_in paths path ≡ file_number paths plain

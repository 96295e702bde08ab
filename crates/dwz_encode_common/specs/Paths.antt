-- The paths of the files that the values of entries number which are written (DWARF 5, 2.14), as the line tables of their units have them.
use Rattle.std.specs.Prelude.{ℕ, ℤ, List, [], Option, None, slice_get, slice_index_or, if◌then◌else◌}
use Rattle.std.specs.List.{flat_map}
use Rattle.std.specs.Option.{option_and_then, option_map_or, option_to_list}
use Rattle.dwz_def_reading.specs.Entries.{RawAttr}
use Rattle.dwz_def_reading.specs.LineTables.{FileTable}
use Rattle.dwz_def_reading.specs.Meanings.{number_of, path_by}
use Rattle.dwz_unit.specs.Rows.{EntryRow, rows_of, units_of}
use Rattle.dwz_graph.specs.declared.file.File.{File}
use Rattle.dwz_layout_numbers.specs.Befores.{is_pair_file}
use Rattle.dwz_layout.specs.declared.known.EntryTable.{EntryTable}
use Rattle.dwz_layout.specs.declared.known.Row.{Row}
use Rattle.dwz_layout.specs.declared.order.UnitItems.{UnitItems}
use Rattle.dwz_layout.specs.declared.walk.Origin.{Origin}
use Rattle.dwz_layout.specs.declared.walk.Origin.TheVariants.{Chained, Imported, OwnRoot, Read}
use Rattle.dwz_encode_common.specs.Stored.{order_give}

-- the path in the row with that number, of one of these line tables
abbrev pub path_in : List FileTable → Option ℕ → ℤ → Option (List ℕ)
path_in tables line number = option_and_then (λ t. path_by t number) (option_and_then (slice_get tables) line)

-- the number of the line table of a unit of the file, where a value of the unit is the number of a file
abbrev pub line_of : File → ℕ → Option ℕ
line_of x unit = slice_index_or x.resolved.lines.items unit None

-- that of a value, if it is the number of a file
abbrev pub path_read : List FileTable → Option ℕ → RawAttr → List (List ℕ)
path_read tables line a = if is_pair_file a.pair then option_to_list (path_in tables line (number_of a.raw)) else []

-- ---- entries

abbrev pub row_paths : File → EntryRow → List (List ℕ)
row_paths x r = flat_map (path_read x.resolved.tables.items (line_of x r.unit)) r.entry.attrs

-- those of an entry of these files, if it is there
abbrev pub paths_at : List File → Row → List (List ℕ)
paths_at files r =
    option_map_or (λ (x : File). option_map_or (row_paths x) (slice_get (rows_of (units_of x.units)) r.entry) [])
    (slice_get files r.file) []

abbrev pub origin_paths : List File → Origin → List (List ℕ)
origin_paths files (Read r) = paths_at files r
origin_paths files (OwnRoot line) = []
origin_paths files (Chained chain space) = []
origin_paths files (Imported part) = []

-- those of units
abbrev pub order_paths : List File → EntryTable → List UnitItems → List (List ℕ)
order_paths files k order = order_give (origin_paths files) k order

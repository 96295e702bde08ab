-- Rows of the code as the definitions see them.
use Rattle.std.specs.Prelude.{Option}
use Rattle.std.specs.Option.{option_map}
use Rattle.dwz_bytes.specs.Input.{Input}
use Rattle.dwz_def_reading.specs.LineTables.{PathRow, TextSections}
use Rattle.dwz_lines.specs.declared.marked_rows.RowReader.{RowReader}
use Rattle.dwz_lines.specs.declared.rows.Row.{Row}
use Rattle.dwz_lines.specs.declared.rows.Seen.{Seen as SeenOfCode}
use Rattle.dwz_lines.specs.declared.rows.Strings.{Strings}
use Rattle.dwz_lines.specs.Reading.{Seen, row_in, seen}
use Rattle.dwz_lines.specs.Views.{format_views}

abbrev pub strings_view : Strings → TextSections
strings_view t = record { strs = t.strs.now; line_strs = t.line_strs.now }

abbrev pub row_view : Row → PathRow
row_view r = record { path = r.path.now; dir = r.dir }

abbrev pub seen_view : SeenOfCode → Seen
seen_view s = seen (option_map (λ p. p.now) s.path) s.dir

-- how a row is read
abbrev pub item_of : RowReader → Input → Option (PathRow × Input)
item_of r = row_in (strings_view r.strings) r.dirs (format_views r.formats.items)

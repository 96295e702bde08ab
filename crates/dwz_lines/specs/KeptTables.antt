-- Tables whose rows are kept, or of which some are marked.
use Rattle.std.specs.Prelude.{◌<◌, ◌^◌, length}
use Rattle.dwz_def_reading.specs.LineTables.{FileTable}
use Rattle.dwz_lines.specs.declared.table_rows.Kept.{Kept}
use Rattle.dwz_lines.specs.declared.table_rows.Kept.TheVariants.{Marked, Rows}

abbrev pub table_of : Kept → FileTable
table_of (Rows rows) = rows
table_of (Marked table) = table

-- no table has more files than that
abbrev pub IsTable : Kept → Type 0
IsTable (Rows rows) = Unit {0}
IsTable (Marked table) = length table.paths < 2 ^ 63

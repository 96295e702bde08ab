-- Directories and files that are marked, as the definitions see them.
use Rattle.std.specs.Prelude.{ℕ, List, map}
use Rattle.dwz_def_reading.specs.LineTables.{PathRow}
use Rattle.dwz_lines.specs.declared.marked_table.MarkedDirs.{MarkedDirs}
use Rattle.dwz_lines.specs.Reading.{Dirs, path_in, path_of}

abbrev pub marked_dirs_view : MarkedDirs → Dirs
marked_dirs_view d = record { paths = map path_of d.rows; strp = d.strp }

-- the paths of files in these directories
abbrev pub marked_paths : List PathRow → List PathRow → List (List ℕ)
marked_paths dirs files = map (path_in (map path_of dirs)) files

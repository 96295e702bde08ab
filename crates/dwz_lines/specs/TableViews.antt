-- Directories of the code as the definitions see them, and the sections in which texts stand.
use Rattle.std.specs.Prelude.{ℕ, List, map}
use Rattle.std.specs.Borrow.{Bor}
use Rattle.dwz_def_reading.specs.LineTables.{TextSections}
use Rattle.dwz_lines.specs.declared.rows.Row.{Row}
use Rattle.dwz_lines.specs.declared.tables.Directories.{Directories}
use Rattle.dwz_lines.specs.Reading.{Dirs, path_in}
use Rattle.dwz_lines.specs.RowViews.{row_view}

abbrev pub sections : List ℕ → List ℕ → TextSections
sections strs line_strs = record { strs = strs; line_strs = line_strs }

abbrev pub dirs_view : Directories → Dirs
dirs_view d = record { paths = map (λ p. p.now) d.paths.items; strp = d.strp }

-- the paths of files in these directories
abbrev pub paths_view : List (Bor (List ℕ)) → List Row → List (List ℕ)
paths_view dirs rows = map (path_in (map (λ d. d.now) dirs)) (map row_view rows)

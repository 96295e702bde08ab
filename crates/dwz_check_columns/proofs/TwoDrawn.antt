-- Columns that are drawn from what two files and their common one say show the rows of both.
use Rattle.std.proofs.Common.{ℕ, ◌+◌, ◌<◌, ◌≤◌, ◌^◌, List, length, Option, arith}
use Rattle.std.specs.Option.{option_map}
use Rattle.dwz_def_reading.specs.Documents.{DwUnit}
use Rattle.dwz_def_reading.specs.Units.{entries_in}
use Rattle.dwz_def_check.specs.CrossNames.{CrossName}
use Rattle.dwz_graph.specs.declared.file.File.{File}
use Rattle.dwz_imports.specs.Said.{raw_beside}
use Rattle.dwz_unit.specs.Rows.{units_of}
use Rattle.dwz_unit.proofs.ShownLemmas.{units_few}
use Rattle.dwz_check_index.specs.declared.both.CrossIndexes.{CrossIndexes}
use Rattle.dwz_check_rows.specs.declared.columns.Columns.{Columns}
use Rattle.dwz_check_columns.specs.Drawn.{AreDrawn}
use Rattle.dwz_check_columns.specs.Shows.{ShowRows, TwoSay, beside}
use Rattle.dwz_check_columns.proofs.DrawnRows.{drawn_rows}
use Rattle.dwz_check_columns.proofs.FileSides.{common_long, file_long}
use Rattle.dwz_check_columns.proofs.LowRoots.{roots_low}

-- what two files say, whose bytes and entries are few
module _ (old new : File) (common : Option File) (indexes : CrossIndexes) (a b c : List (DwUnit ℕ)) (says : TwoSay old new common indexes a b c) (old_short : length old.units.info < 2 ^ 32)
    (new_short : length new.units.info < 2 ^ 32) (old_few : entries_in (units_of old.units) ≤ 2 ^ 28) (new_few : entries_in (units_of new.units) ≤ 2 ^ 28)
    (common_few : entries_in (raw_beside (option_map (λ (f : File). f.units) common)) ≤ 2 ^ 28) where
  few : length a + length b + length c < 2 ^ 32
  few =
      let first = file_long old common a says.old_says in
      let second = file_long new common b says.new_says in
      let third = common_long common c says.common_says in
      let one = units_few (units_of old.units) in
      let two = units_few (units_of new.units) in
      omega (arith, first, second, third, one, two, old_few, new_few, common_few)

  pub two_drawn : (name other : ℕ → CrossName) (x : Columns) → AreDrawn a b c x → ShowRows (beside a c) (beside b c) name other x
  two_drawn name other x drawn =
      drawn_rows a b c x drawn says.old_read says.new_read (roots_low old common a old_short says.old_says) (roots_low new common b new_short says.new_says) few name other

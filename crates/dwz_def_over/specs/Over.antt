-- Files that are written over a finished common file (DWARF 5, 7.3.6): what was read of all of them, and the run.
use Rattle.std.specs.Prelude.{ℕ, Bool, List, length, map}
use Rattle.std.specs.List.{zip}
use Rattle.dwz_def_reading.specs.Documents.{DwUnit}
use Rattle.dwz_def_reading.specs.Files.{Limits, ReadAll, ReadsBy, limits_after, no_files_before}
use Rattle.dwz_def_reading.specs.Finished.{BesideDocs, rule_of_common}
use Rattle.dwz_def_reading.specs.Units.{RawUnit}
use Rattle.dwz_def_tops.specs.Shown.{units_keys}
use Rattle.dwz_def_tops.specs.Spots.{EntryName, file_numbers}
use Rattle.dwz_def_images.specs.Moves.{Move}
use Rattle.dwz_def_readback.specs.Back.{run_by}
use Rattle.dwz_def_readback.specs.Files.{CommonFile, Finished, Run, Stands}
use Rattle.dwz_def_output.specs.Written.{ArePrunable, stored_behind}
use Rattle.dwz_def_taken.specs.declared.fixed.Fixed.{Fixed}
use Rattle.dwz_def_taken.specs.Beside.{Reused, offsets_doc, reused_beside}
use Rattle.dwz_def_taken.specs.Over.{move_over, standing_unit}
use Rattle.dwz_def_taken.specs.Takes.{IsFixedOf}

-- The bytes of a finished common file, and those of files that are to be written over it; the units of the common file as they are stored;
-- what all of them say; a flag for each file, whether it is prunable; and what is taken of the common file.
pub record OverFiles : Type 0 where
  pub common : List ℕ
  pub contents : List (List ℕ)
  pub raw : List RawUnit
  pub said : BesideDocs
  pub prunes : List Bool
  pub fixed : Fixed

-- what the common file, which is read first, leaves to the files
abbrev pub limits_over : OverFiles → Limits
limits_over o = limits_after no_files_before o.common o.raw

-- They read so, the common file with the number behind those of the files; and the flags, and what is taken, are right.
pub record AreOverFiles (o : OverFiles) : Type 0 where
  pub common : ReadsBy (rule_of_common (length o.contents)) no_files_before o.common o.raw o.said.common
  pub files : ReadAll (limits_over o) o.contents o.said.docs
  pub prunable : ArePrunable o.contents o.said.docs o.prunes
  pub taken : IsFixedOf o.said o.fixed

-- ---- the run

-- their units, with names
abbrev pub reused : OverFiles → Reused
reused o = reused_beside o.said

-- What is taken stands in the common file; of what is left those tops move whose groups gain, each file by itself.
abbrev pub move_of : OverFiles → Move
move_of o = move_over (reused o) o.fixed (file_numbers 0 o.said.docs)

abbrev pub run_over : OverFiles → Run
run_over o = run_by (move_of o) o.said.docs (stored_behind (limits_over o) o.contents o.prunes)

-- ---- the common file as it stands

-- its units with names
abbrev pub standing_units : OverFiles → List (DwUnit EntryName)
standing_units o = map (standing_unit (reused o)) (reused o).commons

-- each of these names has the place at which it was read
abbrev pub standing_file : OverFiles → Finished
standing_file o = record {
  bytes = o.common;
  raw = o.raw;
  units = standing_units o;
  rows = zip (units_keys (standing_units o)) (units_keys (offsets_doc o.said.common).units);
}

abbrev pub stands : OverFiles → CommonFile
stands o = Stands (standing_file o)

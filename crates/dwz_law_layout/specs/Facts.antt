-- What is known of the files of a run once it is planned.
use Rattle.std.specs.Prelude.{◌≡◌, ℕ, ◌+◌, ◌<◌, ◌^◌, Bool, List, map, length, Some, slice_get, slice_index_or}
use Rattle.std.specs.List.{filter}
use Rattle.dwz_def_reading.specs.Values.{AreBytes}
use Rattle.dwz_def_reading.specs.Documents.{Doc, DwUnit}
use Rattle.dwz_def_reading.specs.Files.{around_of}
use Rattle.dwz_def_reading.specs.Lists.{Each}
use Rattle.dwz_def_tops.specs.Spots.{EntryName, FileUnit, Within, file_numbers, units_of}
use Rattle.dwz_def_images.specs.Homes.{Home, Rule}
use Rattle.dwz_def_images.specs.Moves.{Move}
use Rattle.dwz_def_images.specs.Units.{changes, common_units}
use Rattle.dwz_def_readback.specs.Back.{run_by}
use Rattle.dwz_def_readback.specs.Files.{CommonFile, Run, Stored, name_after}
use Rattle.dwz_plan.specs.Planned.{Planned}
use Rattle.dwz_plan.specs.ShowsMove.{ShowsMove}
use Rattle.dwz_unit.specs.Rows.{units_of as raw_units}
use Rattle.dwz_graph.specs.declared.file.File.{File}
use Rattle.dwz_graph.specs.Files.{AreKept, HasRead, docs_of}
use Rattle.dwz_graph.specs.Index.{Index}
use Rattle.dwz_graph.specs.Indexed.{AreIndexes}
use Rattle.dwz_graph.specs.AllNames.{AreTopEntries, all_names}
use Rattle.dwz_layout_numbers.specs.OwnerLaws.{HoldTops}
use Rattle.dwz_layout_numbers.specs.Owners.{AreUnitNumbers, StandsIn, all_written}
use Rattle.dwz_layout_numbers.specs.Images.{IsPlanned}
use Rattle.dwz_law_layout.specs.Beside.{Beside, IsMadeAt, common_by, every_by, move_by, owners_by}
use Rattle.dwz_law_layout.specs.Knows.{FileRead}
use Rattle.dwz_law_layout.specs.Moving.{MovesSo}
use Rattle.dwz_law_layout.specs.Whole.{AreWhole}

-- Files as they were read, beside what stands there, with their indexes: by which rule their tops move, how they are stored, their plan;
-- how many units the common file has, and the numbers of partial units and of old ones among all units that are written.
pub record RunFacts (beside : Beside) : Type 0 where
  pub contents : List (List ℕ)
  pub files : List File
  pub indexes : List Index
  pub rule : Rule
  pub input : Stored
  pub planned : Planned
  pub commons : ℕ
  pub parts : List ℕ
  pub olds : List ℕ

-- what the files say, and their units with names
abbrev pub docs : {beside : Beside} → RunFacts beside → List (Doc ℕ)
docs f = docs_of f.contents

abbrev pub units : {beside : Beside} → RunFacts beside → List (FileUnit EntryName)
units f = units_of (docs f)

-- what they say, and behind that what the common file says, if it stands beside them
abbrev pub every : {beside : Beside} → RunFacts beside → List (Doc ℕ)
every {beside} f = every_by beside (docs f)

abbrev pub move : {beside : Beside} → RunFacts beside → Move
move {beside} f = move_by beside f.rule (docs f)

abbrev pub common : {beside : Beside} → RunFacts beside → CommonFile
common {beside} f = common_by beside

-- the units of the common file's entries, if it stands beside them, by their numbers
abbrev pub owners_beside : {beside : Beside} → RunFacts beside → List ℕ
owners_beside {beside} f = owners_by beside

-- what is written of
abbrev pub run : {beside : Beside} → RunFacts beside → Run
run f = run_by (move f) (docs f) f.input

-- a partial unit is made, where it doesn't stand in the common file already
abbrev pub IsMade : {beside : Beside} → RunFacts beside → Home → Type 0
IsMade {beside} f = IsMadeAt beside

-- of each file whether something of it moves: those files are written
abbrev pub written : {beside : Beside} → RunFacts beside → List Bool
written f = map (changes (move f) (units f)) (file_numbers 0 (docs f))

-- their numbers, in order
abbrev pub files_written : {beside : Beside} → RunFacts beside → List ℕ
files_written f = filter (changes (move f) (units f)) (file_numbers 0 (docs f))

-- all units that are written, one behind the other: those of the common file, and those of each file that is written
abbrev pub units_written : {beside : Beside} → RunFacts beside → List (DwUnit EntryName)
units_written f = all_written (move f) (units f) (written f)

-- a file as it was read: its number, its units, what surrounds them, and for each place the name of what stands after for what stood there
abbrev pub file_read : {beside : Beside} → RunFacts beside → ℕ → List ℕ → File → FileRead
file_read f number bytes x = record {
  number = number;
  raw = raw_units x.units;
  around = around_of bytes (raw_units x.units);
  after = name_after (run f) number;
}

-- the file with that number, as it was read, with its index
pub record HasFile {beside : Beside} (f : RunFacts beside) (number : ℕ) (bytes : List ℕ) (x : File) (index : Index) : Type 0 where
  pub file : slice_get f.files number ≡ Some x
  pub index_is : slice_get f.indexes number ≡ Some index
  pub read : HasRead f.contents number bytes x

-- a file is stored as it was read
abbrev pub IsStoredSo : {beside : Beside} → RunFacts beside → Type 0
IsStoredSo f =
    (number : ℕ) (bytes : List ℕ) (x : File) (index : Index) → HasFile f number bytes x index
    → (f.input.bytes number ≡ bytes) × (f.input.raw number ≡ raw_units x.units)

-- Entries of a common file that stands have the numbers behind those of the files; one of a top stands in the unit that owns it.
pub record StandBehind {beside : Beside} (f : RunFacts beside) : Type 0 where
  pub many : length (all_names (every f)) ≡ length (all_names (docs f)) + length (owners_beside f)
  pub stand : (j top : ℕ) (path : List ℕ) → slice_get (all_names (every f)) (length (all_names (docs f)) + j) ≡ Some (Within top path)
      → StandsIn (common_units (move f)) (Within top path) (slice_index_or (owners_beside f) j 0)

-- The files were read, and these are their indexes, their plan and the numbers of their units. What moves is as is asked, what is written
-- is whole, and it is known which entries stand for which, and where those of the common file stand.
pub record AreFacts {beside : Beside} (f : RunFacts beside) : Type 0 where
  pub bytes : Each AreBytes f.contents
  pub kept : AreKept f.contents f.files
  pub indexed : AreIndexes (docs f) f.indexes
  pub stored : IsStoredSo f
  pub goes : MovesSo (IsMade f) (move f) (units f)
  pub whole : AreWhole (common f) (docs f) (run f)
  pub holds : HoldTops (units f) (move f)
  pub images : (tops : List ℕ) → AreTopEntries (every f) tops → IsPlanned (every f) (move f) f.planned tops
  pub behind : StandBehind f
  pub shows : ShowsMove (move f) (units f) (length (docs f)) f.planned
  pub numbers : AreUnitNumbers (move f) (units f) (written f) f.commons f.parts f.olds
  pub few : length (all_names (every f)) < 2 ^ 32

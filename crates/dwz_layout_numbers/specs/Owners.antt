-- The unit in which an entry is written that stands for itself.
use Rattle.std.specs.Prelude.{◌≡◌, ℕ, suc, ◌+◌, Bool, true, false, List, [], ◌∷◌, ◌++◌, length, Option, Some, None, slice_get}
use Rattle.std.specs.Prelude.{slice_index_or}
use Rattle.dwz_def_reading.specs.Lists.{In}
use Rattle.dwz_def_reading.specs.Documents.{DwUnit}
use Rattle.dwz_def_tops.specs.Lists.{Nth}
use Rattle.dwz_def_tops.specs.Shown.{unit_keys}
use Rattle.dwz_unit.specs.Rows.{EntryRow}
use Rattle.dwz_def_tops.specs.Spots.{EntryName, FileUnit}
use Rattle.dwz_graph.specs.Names.{top_in}
use Rattle.dwz_def_images.specs.Moves.{Move, plan}
use Rattle.dwz_def_images.specs.Plan.{PartialUnit}
use Rattle.dwz_plan.specs.declared.plan.Home.{Home as Place}
use Rattle.dwz_plan.specs.declared.plan.Home.TheVariants.{Common as InCommon, Local as InFile, Stay as InUnit}
use Rattle.dwz_plan.specs.Planned.{Planned}
use Rattle.dwz_def_images.specs.Units.{changes, common_units, kept_unit, out_units, partial_unit}

-- ---- the units that are written, one behind the other

-- those of a file that is written: its partial units and then its old ones
abbrev pub file_written : Move → List (FileUnit EntryName) → ℕ → Bool → List (DwUnit EntryName)
file_written m units file true = out_units m units file
file_written m units file false = []

unfoldable pub files_written : Move → List (FileUnit EntryName) → ℕ → List Bool → List (DwUnit EntryName)
files_written m units file [] = []
files_written m units file (w ∷ written) = file_written m units file w ++ files_written m units (suc file) written

-- those of the common file, and those of the files that are written, for which there are flags
abbrev pub all_written : Move → List (FileUnit EntryName) → List Bool → List (DwUnit EntryName)
all_written m units written = common_units m ++ files_written m units 0 written

-- a file is written
abbrev pub IsFileWritten : List Bool → ℕ → Type 0
IsFileWritten written file = slice_index_or written file false ≡ true

-- ---- their numbers

-- the number is that of this unit
abbrev pub IsNumber : List (DwUnit EntryName) → List ℕ → ℕ → DwUnit EntryName → Type 0
IsNumber all numbers i u = (n : ℕ) × (slice_get numbers i ≡ Some n) × (slice_get all n ≡ Some u)

-- The common file has so many units. For each partial unit its number, and for each unit that was read that of the one that is kept of
-- it, where its file is written, as each is of which something moves.
pub record AreUnitNumbers (m : Move) (units : List (FileUnit EntryName)) (written : List Bool) (commons : ℕ) (parts olds : List ℕ) : Type 0
  where
    pub commons_are : commons ≡ length (common_units m)
    pub changed : (file : ℕ) → changes m units file ≡ true → IsFileWritten written file
    pub parts_are : (n : ℕ) (part : PartialUnit) → Nth 0 m.parts n part → IsNumber (all_written m units written) parts n (partial_unit m n)
    pub olds_are : (i : ℕ) (u : FileUnit EntryName) → Nth 0 units i u → IsFileWritten written u.file
        → IsNumber (all_written m units written) olds i (kept_unit m units i u)

-- ---- owners

-- that of an entry of a top that moves is the partial unit of its home, of any other its own unit
abbrev pub owner_at : List ℕ → ℕ → Place → ℕ
owner_at parts kept (InCommon n) = slice_index_or parts n kept
owner_at parts kept (InFile n) = slice_index_or parts n kept
owner_at parts kept InUnit = kept

abbrev pub owner_by : Planned → List ℕ → ℕ → Option ℕ → ℕ
owner_by plan parts kept None = kept
owner_by plan parts kept (Some top) = owner_at parts kept (slice_index_or plan.homes top InUnit)

-- the name stands in the unit with that number
pub record StandsIn (all : List (DwUnit EntryName)) (s : EntryName) (n : ℕ) : Type 0 where
  pub unit : DwUnit EntryName
  pub is : slice_get all n ≡ Some unit
  pub has : In s (unit_keys unit)

abbrev pub IsOwner : Move → List (FileUnit EntryName) → List Bool → EntryName → ℕ → Type 0
IsOwner m units written s owner = StandsIn (all_written m units written) s owner

-- the owners of the entries of a file, by their rows and their names; the first unit of the file has that number
abbrev pub AreOwners : Planned → List ℕ → List ℕ → ℕ → List EntryRow → List EntryName → List ℕ → Type 0
AreOwners plan parts olds unit [] [] [] = Unit {0}
AreOwners plan parts olds unit (row ∷ rows) (s ∷ names) (owner ∷ owners) =
    ((kept : ℕ) → slice_get olds (unit + row.unit) ≡ Some kept
    → owner ≡ owner_by plan parts kept (top_in s)) × AreOwners plan parts olds unit rows names owners
AreOwners plan parts olds unit _ _ _ = ⊥

-- they were added
pub record AddsOwners (plan : Planned) (parts olds : List ℕ) (unit : ℕ) (rows : List EntryRow) (names : List EntryName) (old new : List ℕ)
    : Type
    0 where
  pub more : List ℕ
  pub is : new ≡ old ++ more
  pub are : AreOwners plan parts olds unit rows names more

-- The entries of what was written may stand as those of files that may have been written: their forms, and how deep they are.
use Rattle.std.specs.Prelude.{◌≡◌, true, false, Bool, ℕ, List, Option, Some}
use Rattle.dwz_def_reading.specs.Lists.{Each, In}
use Rattle.dwz_def_reading.specs.Documents.{Doc, DwUnit}
use Rattle.dwz_def_reading.specs.Meanings.{Common}
use Rattle.dwz_def_reading.specs.Places.{Place}
use Rattle.dwz_def_reading.specs.Units.{RawUnit}
use Rattle.dwz_def_reading.specs.Values.{AreBytes}
use Rattle.dwz_def_tops.specs.Alike.{TopScope}
use Rattle.dwz_def_images.specs.Units.{changes}
use Rattle.dwz_def_readback.specs.Back.{SaysUnits}
use Rattle.dwz_def_readback.specs.Files.{Run, imports_common}
use Rattle.dwz_def_output.specs.FilesAfter.{common_bytes, file_after}
use Rattle.dwz_def_output.specs.Written.{CanBeWritten, common_under, run_under}
use Rattle.dwz_law_cross.specs.ReadLaws.{AllMayStand, IsFormOfBack, IsFormOfCommon}

-- however a file is read back, its entries have such forms
abbrev pub StandAs : (ℕ → Bool → ℕ → Type 0) → List ℕ → Type 0
StandAs IsForm bytes =
    (common : Option (Common Place)) (number : ℕ) (raw : List RawUnit) (units : List (DwUnit Place))
    → SaysUnits common number bytes raw units → AllMayStand IsForm raw

-- Those of the common file, if there is one, have such; and those of each file of which something moves, beside it. In one that imports
-- nothing from it no form leads to it.
pub record StandSo (scope : TopScope) (name : List ℕ) (r : Run) : Type 0 where
  pub common : common_under scope r ≡ Some (common_bytes r) → StandAs IsFormOfCommon (common_bytes r)
  pub file : (file : ℕ) → In file r.files → changes r.move r.units file ≡ true → StandAs (IsFormOfBack true) (file_after name r file)
  pub alone : (file : ℕ) → In file r.files → changes r.move r.units file ≡ true → imports_common r.move r.units file ≡ false
      → StandAs (IsFormOfBack false) (file_after name r file)

-- where nothing refuses the files
abbrev pub StandLaw : Type 0
StandLaw =
    (scope : TopScope) (name : List ℕ) (contents : List (List ℕ)) (docs : List (Doc ℕ)) (prunes : List Bool) → Each AreBytes contents
    → CanBeWritten scope name contents docs prunes → StandSo scope name (run_under scope contents docs prunes)

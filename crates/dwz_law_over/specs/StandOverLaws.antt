-- The entries of what was written over a finished common file may stand as those of files that may have been written.
use Rattle.std.specs.Prelude.{◌≡◌, true, false, ℕ, List}
use Rattle.dwz_def_reading.specs.Lists.{Each}
use Rattle.dwz_def_reading.specs.Values.{AreBytes}
use Rattle.dwz_def_tops.specs.Seen.{Closed}
use Rattle.dwz_def_images.specs.Units.{out_units}
use Rattle.dwz_def_readback.specs.Files.{imports_common}
use Rattle.dwz_def_over.specs.Over.{AreOverFiles, OverFiles, run_over}
use Rattle.dwz_def_over.specs.Written.{CanBeWrittenOver, IsAnew, file_over}
use Rattle.dwz_law_cross.specs.ReadLaws.{IsFormOfBack}
use Rattle.dwz_law_cross.specs.StandLaws.{StandAs}

-- Those of each file of which something moves, or is taken, have such forms beside the common file. In one that imports nothing from it no
-- form leads to it.
pub record StandSoOver (name : List ℕ) (o : OverFiles) : Type 0 where
  pub file : (file : ℕ) → IsAnew o file → StandAs (IsFormOfBack true) (file_over name o file)
  pub alone : (file : ℕ) → IsAnew o file → imports_common (run_over o).move (run_over o).units file ≡ false
      → StandAs (IsFormOfBack false) (file_over name o file)

-- where nothing refuses the files
abbrev pub StandOverLaw : Type 0
StandOverLaw = (name : List ℕ) (o : OverFiles) → Each AreBytes o.contents → CanBeWrittenOver name o → StandSoOver name o

-- The references of what stands after in place of a file that imports nothing from the common file name entries of it.
abbrev pub OwnOverLaw : Type 0
OwnOverLaw =
    (o : OverFiles) → Each AreBytes o.contents → AreOverFiles o → (file : ℕ)
    → imports_common (run_over o).move (run_over o).units file ≡ false
    → Closed (out_units (run_over o).move (run_over o).units file)

-- What was read of a file, and what is read back of it over a finished common file, mean the same where the two are read beside that, each
-- with a number of its own.
use Rattle.std.specs.Prelude.{◌≡◌, ◌≢◌, false, ℕ, List, Some}
use Rattle.dwz_def_reading.specs.Lists.{Each, Nth}
use Rattle.dwz_def_reading.specs.Documents.{Doc}
use Rattle.dwz_def_reading.specs.Values.{AreBytes}
use Rattle.dwz_def_images.specs.Units.{changes}
use Rattle.dwz_def_over.specs.Over.{OverFiles, run_over}
use Rattle.dwz_def_over.specs.Written.{CanBeWrittenOver, IsAnew, ReadBackOver}
use Rattle.dwz_law_cross.specs.CheckLaws.{MeanSame}

-- where nothing refuses what is written, and files read back, each that is written anew means what it meant
abbrev pub CheckOverLaw : Type 0
CheckOverLaw =
    (name : List ℕ) (o : OverFiles) → Each AreBytes o.contents → CanBeWrittenOver name o → (output : ℕ → List ℕ) → ReadBackOver o output
    → (file : ℕ) (doc : Doc ℕ) → Nth 0 o.said.docs file doc → IsAnew o file
    → (old new common : ℕ) → old ≢ common → new ≢ common
    → MeanSame (Some o.common) old new common doc ((run_over o).input.bytes file) (output file)

-- and each of which nothing moves, and nothing is taken, so that it stays as it was, means what it meant
abbrev pub StayOverLaw : Type 0
StayOverLaw =
    (name : List ℕ) (o : OverFiles) → Each AreBytes o.contents → CanBeWrittenOver name o → (output : ℕ → List ℕ) → ReadBackOver o output
    → (file : ℕ) (doc : Doc ℕ) → Nth 0 o.said.docs file doc → changes (run_over o).move (run_over o).units file ≡ false
    → (old new common : ℕ) → old ≢ common → new ≢ common
    → MeanSame (Some o.common) old new common doc ((run_over o).input.bytes file) ((run_over o).input.bytes file)

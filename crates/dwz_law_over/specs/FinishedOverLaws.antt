-- A file before a run over a finished common file and after it are read one behind the other, beside that or without it, and mean the same.
use Rattle.std.specs.Prelude.{◌≡◌, false, ℕ, List, [], ◌∷◌, None, Some}
use Rattle.dwz_def_reading.specs.Lists.{Each, Nth}
use Rattle.dwz_def_reading.specs.Documents.{Doc}
use Rattle.dwz_def_reading.specs.Finished.{FinishedDocs, ReadFinished}
use Rattle.dwz_def_reading.specs.Texts.{NoZero}
use Rattle.dwz_def_reading.specs.Values.{AreBytes}
use Rattle.dwz_def_readback.specs.Files.{imports_common}
use Rattle.dwz_def_over.specs.Over.{OverFiles, run_over}
use Rattle.dwz_def_over.specs.Written.{CanBeWrittenOver}
use Rattle.dwz_def_limits.specs.Within.{AreWithinLimits}
use Rattle.dwz_law_cross.specs.FinishedLaws.{SaidSame, SaidSameAlone}
use Rattle.dwz_law_over.specs.SupOverLaws.{bytes_over}

-- Where nothing refuses the files, so it is with each beside the common file, whether something of it moves or not, where limits leave room
-- for the three.
abbrev pub FinishedOverLaw : Type 0
FinishedOverLaw =
    (name : List ℕ) (o : OverFiles) → Each AreBytes o.contents → CanBeWrittenOver name o → NoZero name
    → let r = run_over o in
    (file : ℕ) (doc : Doc ℕ) → Nth 0 o.said.docs file doc
    → AreWithinLimits (o.common ∷ r.input.bytes file ∷ bytes_over name o file ∷ [])
    → (said : FinishedDocs) × ReadFinished (Some o.common) (r.input.bytes file ∷ bytes_over name o file ∷ []) said × SaidSame said

-- And so it is without the common file with each that imports nothing from it.
abbrev pub AloneOverLaw : Type 0
AloneOverLaw =
    (name : List ℕ) (o : OverFiles) → Each AreBytes o.contents → CanBeWrittenOver name o
    → let r = run_over o in
    (file : ℕ) (doc : Doc ℕ) → Nth 0 o.said.docs file doc → imports_common r.move r.units file ≡ false
    → AreWithinLimits (r.input.bytes file ∷ bytes_over name o file ∷ [])
    → (said : FinishedDocs) × ReadFinished None (r.input.bytes file ∷ bytes_over name o file ∷ []) said × SaidSameAlone said

-- Inner: all that is asked of a run, so that what it writes reads back, holds over a finished common file.
use Rattle.std.specs.Prelude.{ℕ, List}
use Rattle.dwz_def_reading.specs.Lists.{Each}
use Rattle.dwz_def_reading.specs.Values.{AreBytes}
use Rattle.dwz_def_readback.specs.Back.{CanWriteBy}
use Rattle.dwz_def_over.specs.Over.{OverFiles, run_over, stands}
use Rattle.dwz_def_over.specs.Written.{CanBeWrittenOver}

-- where nothing refuses what is written of them
abbrev pub CanWriteOverLaw : Type 0
CanWriteOverLaw = (name : List ℕ) (o : OverFiles) → Each AreBytes o.contents → CanBeWrittenOver name o → CanWriteBy (stands o) (run_over o)

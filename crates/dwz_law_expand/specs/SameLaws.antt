-- What is written of a file without its partial units means what the file meant, imports expanded (DWARF 5, 3.2.5).
use Rattle.std.specs.Prelude.{[]}
use Rattle.dwz_def_reading.specs.Refusal.{Refusal}
use Rattle.dwz_def_cross.specs.CrossSame.{CrossSame}
use Rattle.dwz_def_expand.specs.OneFile.{OneFile, ReadsOne, said_by_file, same_place}
use Rattle.dwz_def_expand.specs.Output.{ExpandRefusal}
use Rattle.dwz_def_expand.specs.After.{SpacesFit, units_after}
use Rattle.dwz_law_expand.specs.Told.{IsOfBytes}

-- where nothing refuses a file that reads, and spaces fit, the file beside its common file and the new units alone mean the same
abbrev pub SameLaw : Type 0
SameLaw =
    (f : OneFile) → IsOfBytes f → ReadsOne f → ((q : Refusal) → ¬ ExpandRefusal f q) → SpacesFit same_place (said_by_file f)
    → CrossSame (said_by_file f) (record { own = units_after f; common = [] })

-- The units that are written of a file without its partial units can be written, and say what their sources say.
use Rattle.std.specs.Prelude.{[]}
use Rattle.dwz_def_reading.specs.Refusal.{Refusal}
use Rattle.dwz_def_reading.specs.Lists.{Each}
use Rattle.dwz_def_encoding.specs.Fitting.{AreWritable, UnitFits}
use Rattle.dwz_def_encoding.specs.Meant.{UnitsSay}
use Rattle.dwz_def_expand.specs.OneFile.{OneFile, ReadsOne}
use Rattle.dwz_def_expand.specs.Output.{ExpandRefusal, new_places}
use Rattle.dwz_def_expand.specs.After.{new_units}
use Rattle.dwz_law_expand.specs.Told.{IsOfBytes, told}

-- each unit is sound, stands at its place, and has room for its operands; numbers and sections fit; and each value says what its form says
pub record CanBeExpanded (f : OneFile) : Type 0 where
  pub writable : AreWritable (new_places f) [] (new_units f)
  pub fit : Each (UnitFits (new_places f)) (new_units f)
  pub say : UnitsSay (told f) (new_units f)

-- where nothing refuses a file that reads
abbrev pub FormLaw : Type 0
FormLaw = (f : OneFile) → IsOfBytes f → ReadsOne f → ((q : Refusal) → ¬ ExpandRefusal f q) → CanBeExpanded f

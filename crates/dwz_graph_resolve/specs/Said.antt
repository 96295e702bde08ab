-- What the units of a file say, or the first fault: those of meanings come first, then those of address ranges, then those of shared lists.
use Rattle.std.specs.Prelude.{ℕ, List, Result, Ok}
use Rattle.dwz_model.specs.declared.fault.Fault.{Fault}
use Rattle.dwz_def_reading.specs.Input.{input}
use Rattle.dwz_def_reading.specs.Reading.{◌>>=◌}
use Rattle.dwz_def_reading.specs.Units.{RawUnit}
use Rattle.dwz_def_reading.specs.Documents.{DwUnit}
use Rattle.dwz_def_reading.specs.Files.{is_place_of}
use Rattle.dwz_def_reading.specs.Meanings.{Around}
use Rattle.dwz_def_reading.specs.Meant.{units_meaning}
use Rattle.dwz_def_reading.specs.NamedLists.{lists_of_units}
use Rattle.dwz_def_reading.specs.Ranges.{RangeSet, sets_at}
use Rattle.dwz_def_reading.specs.Shared.{none_shared}

abbrev pub kept : List (DwUnit ℕ) → Unit {0} → Result (List (DwUnit ℕ)) Fault
kept units good = Ok units

abbrev pub behind_sets : Around ℕ → List RawUnit → List (DwUnit ℕ) → List RangeSet → Result (List (DwUnit ℕ)) Fault
behind_sets around raw units sets = none_shared (lists_of_units around raw) >>= kept units

abbrev pub behind_units : Around ℕ → List RawUnit → List ℕ → List (DwUnit ℕ) → Result (List (DwUnit ℕ)) Fault
behind_units around raw aranges units = sets_at (is_place_of raw) (input aranges 0) >>= behind_sets around raw units

abbrev pub said : Around ℕ → List RawUnit → List ℕ → Result (List (DwUnit ℕ)) Fault
said around raw aranges = units_meaning around raw >>= behind_units around raw aranges

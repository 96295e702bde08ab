-- Units are stored in one way, whatever room there is for them.
use Rattle.std.specs.Prelude.{◌≡◌, ℕ, List}
use Rattle.dwz_def_reading.specs.Units.{RawUnit}
use Rattle.dwz_def_limits.specs.Within.{StoresUnits}

abbrev pub StoredLaw : Type 0
StoredLaw = (bytes : List ℕ) (units others : List RawUnit) → StoresUnits bytes units → StoresUnits bytes others → units ≡ others

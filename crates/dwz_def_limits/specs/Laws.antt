-- Limits that leave room for files leave room for some of them.
use Rattle.std.specs.Prelude.{ℕ, List, ◌∷◌}
use Rattle.dwz_def_reading.specs.Units.{RawUnit}
use Rattle.dwz_def_limits.specs.Within.{AreWithinLimits, StoresUnits}

-- Where files are within the limits, they are so as well without the first of them, if that one stores units.
abbrev pub FewerLaw : Type 0
FewerLaw =
    (file : List ℕ) (files : List (List ℕ)) (units : List RawUnit) → StoresUnits file units → AreWithinLimits (file ∷ files)
    → AreWithinLimits files

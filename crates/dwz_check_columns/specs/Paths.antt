-- The paths to the types of type units, as they are put.
use Rattle.std.specs.Prelude.{◌≡◌, ℕ, List, ◌++◌, map}
use Rattle.dwz_def_reading.specs.Documents.{DwUnit}
use Rattle.dwz_def_cross.specs.CrossSame.{EachTwo}
use Rattle.dwz_groups.specs.declared.groups.Edge.{Edge}
use Rattle.dwz_imports.specs.Stored.{edge, edges_of}
use Rattle.dwz_check_columns.specs.Drawn.{IsPathOf}

-- the path of a unit was put under a key
abbrev pub PutsPath : ℕ → DwUnit ℕ → List Edge → List Edge → Type 0
PutsPath key u old new = (path : List ℕ) × (new ≡ old ++ map (edge key) path) × IsPathOf u u.kind path

-- the paths of units were put, where the first has that number
abbrev pub PutsPaths : ℕ → List (DwUnit ℕ) → List Edge → List Edge → Type 0
PutsPaths first said old new = (lists : List (List ℕ)) × (new ≡ old ++ edges_of first lists) × EachTwo (λ u. IsPathOf u u.kind) said lists

-- Which tops of a common file references go into.
use Rattle.std.specs.Prelude.{ℕ, List, length, map, Option, None, Some}
use Rattle.dwz_def_check.specs.CrossNames.{AtPath, CrossName}
use Rattle.dwz_def_reading.specs.Documents.{Doc}
use Rattle.dwz_def_taken.specs.Beside.{as_compile}
use Rattle.dwz_def_tops.specs.Spots.{EntryName, spot_in, spots_from, tops_of, units_of}

-- of what is called so
abbrev pub top_called : CrossName → Option ℕ
top_called (AtPath top path) = Some top
top_called _ = None

-- the names of the places of a common file beside files
abbrev pub common_name : List (Doc ℕ) → Doc ℕ → ℕ → EntryName
common_name docs common = spot_in (spots_from (length (units_of docs)) (length (tops_of (units_of docs))) (map as_compile common.units))

-- Which tops operands of a common file name.
use Rattle.std.specs.Prelude.{◌≡◌, ◌⊎◌, ℕ, true, List, Some, map}
use Rattle.std.specs.List.{list_any}
use Rattle.dwz_def_reading.specs.Documents.{DwUnit, unit_map}
use Rattle.dwz_def_reading.specs.Lists.{In}
use Rattle.dwz_def_reading.specs.Units.{RawUnit}
use Rattle.dwz_def_tops.specs.Alike.{any_attr}
use Rattle.dwz_def_tops.specs.Spots.{EntryName}
use Rattle.dwz_move.specs.Known.{in_unit, tops_of_refs}
use Rattle.dwz_move.specs.Marked.{expression_names}

-- an operand of an expression names an entry of the top, or one of a location list, whose operands name these entries
abbrev pub Names : (ℕ → EntryName) → List RawUnit → List (DwUnit ℕ) → List ℕ → ℕ → Type 0
Names name raw said listed t = (list_any (in_unit (any_attr (expression_names t))) (map (unit_map name) said) ≡ true)
    ⊎ In (Some t) (tops_of_refs name raw listed)

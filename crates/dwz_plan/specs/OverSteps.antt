-- The steps in which partial units of a common file are found.
use Rattle.std.specs.Prelude.{ℕ, suc, ◌-◌, List, [], ◌∷◌, ◌++◌, nat_le, if◌then◌else◌}
use Rattle.dwz_groups.specs.declared.groups.Edge.{Edge}
use Rattle.dwz_groups.specs.declared.tops.TopRow.{TopRow}
use Rattle.dwz_plan.specs.Steps.{pair}

abbrev pub standing_one : ℕ → TopRow → ℕ → List Edge
standing_one first row n = if nat_le first row.unit then pair (row.unit - first) n ∷ [] else []

-- under the number of its partial unit each row of units from that one on; the first row has that number
unfoldable pub standing_pairs : ℕ → ℕ → List TopRow → List Edge
standing_pairs first n [] = []
standing_pairs first n (row ∷ rows) = standing_one first row n ++ standing_pairs first (suc n) rows

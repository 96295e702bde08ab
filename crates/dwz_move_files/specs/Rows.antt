-- Rows that say which tops may move.
use Rattle.std.specs.Prelude.{Bool, List, [], ◌∷◌}
use Rattle.dwz_groups.specs.declared.tops.TopRow.{TopRow}

unfoldable pub with_flags : List TopRow → List Bool → List TopRow
with_flags (row ∷ rows) (flag ∷ flags) = record row { movable = flag } ∷ with_flags rows flags
with_flags _ _ = []

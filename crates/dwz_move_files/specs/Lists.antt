-- What operands of location lists name.
use Rattle.std.specs.Prelude.{ℕ, List, [], ◌∷◌, Option, map, if◌then◌else◌}
use Rattle.dwz_graph.specs.ListOperand.{ListOperand}

abbrev pub entries_of : List ListOperand → List ℕ
entries_of rows = map (λ row. row.entry) rows

-- of the tops that operands name, those of operands that are ULEB128 numbers
abbrev pub uleb_tops : List ListOperand → List (Option ℕ) → List (Option ℕ)
uleb_tops (row ∷ rows) (t ∷ tops) = if row.uleb then t ∷ uleb_tops rows tops else uleb_tops rows tops
uleb_tops _ _ = []

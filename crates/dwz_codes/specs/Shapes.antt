-- Inner: the shapes of all codes of operators, by their number.
use Rattle.std.specs.Prelude.{ℕ, zero, suc, ◌+◌, List, [], ◌∷◌, map}
use Rattle.dwz_codes.specs.Operators.{operator_rows}
use Rattle.dwz_codes.specs.Rows.{shape_of}
use Rattle.dwz_codes.specs.declared.shape.Shape.{Shape}

-- so many numbers from one on
abbrev pub numbers : ℕ → ℕ → List ℕ
numbers from zero = []
numbers from (suc n) = from ∷ numbers (from + 1) n

unfoldable pub operator_shapes : List Shape
operator_shapes = map (shape_of operator_rows) (numbers 0 256)

-- The first place, operand by operand.
use Rattle.std.specs.Prelude.{ℕ, ◌^◌, min, nat_le, Bool, true, false, List, [], ◌∷◌, Option, Some, None}
use Rattle.dwz_def_reading.specs.Shared.{ListOperand}

-- the number needs more groups of seven bits, or more bytes
abbrev pub is_over : Bool → ℕ → ℕ → Bool
is_over true width number = nat_le (128 ^ width) number
is_over false width number = nat_le (256 ^ width) number

abbrev pub place_if : Bool → ℕ → Option ℕ
place_if true at = Some at
place_if false at = None

-- the first of two places, or the one if there is no other
abbrev pub first_of_two : Option ℕ → Option ℕ → Option ℕ
first_of_two None other = other
first_of_two (Some at) None = Some at
first_of_two (Some at) (Some other) = Some (min at other)

unfoldable pub first_over : (ListOperand → ℕ) → List ListOperand → Option ℕ
first_over number [] = None
first_over number (o ∷ operands) =
    first_of_two (place_if (is_over o.operand.uleb o.operand.width (number o)) o.operand.at) (first_over number operands)

-- Inner: Operands of lists by their indexes.
use Rattle.std.specs.Prelude.{◌≡◌, ℕ, ◌<◌, List, length, Option, Some, slice_get}
use Rattle.dwz_def_reading.specs.declared.exprs.Operand.{Operand}
use Rattle.dwz_def_reading.specs.Lists.{In}
use Rattle.dwz_def_reading.specs.Shared.{OneOf}
use Rattle.dwz_graph.specs.ListOperand.{ListOperand}

-- each begins behind where those before it begin
abbrev pub Rise : List ListOperand → Type 0
Rise operands =
    (i j : ℕ) (a b : ListOperand) → i < j → slice_get operands i ≡ Some a → slice_get operands j ≡ Some b → a.at < b.at

-- that operand begins there
abbrev pub HasPlace : List ListOperand → ℕ → ℕ → Type 0
HasPlace operands i at = (row : ListOperand) × (slice_get operands i ≡ Some row) × (row.at ≡ at)

-- an operand has the number of one that begins there; and each has one where one begins that was told
pub record AreNumbered (operands : List ListOperand) (told : List Operand) (numbers : List (Option ℕ)) : Type 0 where
  pub many : length numbers ≡ length operands
  pub from : (i n : ℕ) → slice_get numbers i ≡ Some (Some n) → OneOf told (λ t. HasPlace operands i t.at × (t.number ≡ n))
  pub all : Rise operands → (t : Operand) (i : ℕ) → In t told → HasPlace operands i t.at → (n : ℕ) × (slice_get numbers i ≡ Some (Some n))

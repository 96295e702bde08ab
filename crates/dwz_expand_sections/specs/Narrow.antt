-- Operands with their new numbers, and the first by its place whose number needs more bytes than it has (DWARF 5, 2.5 and 7.7.1).
use Rattle.std.specs.Prelude.{◌≡◌, ℕ, ◌≤◌, List, Option, Some, None}
use Rattle.dwz_def_reading.specs.declared.exprs.Operand.{Operand}
use Rattle.dwz_def_reading.specs.Lists.{In}
use Rattle.dwz_def_reading.specs.PatchedLists.{with_number}
use Rattle.dwz_def_output.specs.Refusals.{IsOver}
use Rattle.dwz_def_expand.specs.OneFile.{OneFile}
use Rattle.dwz_def_expand.specs.Output.{Spoken, number_of_operand}

-- an operand with its new number
abbrev pub operand_after : OneFile → Spoken → Operand
operand_after f o = with_number (λ at. number_of_operand f o) o.operand

-- the number needs more bytes
abbrev pub IsNarrow : Operand → Type 0
IsNarrow o = IsOver o.uleb o.width o.number

-- one of the operands is so narrow, and stands there; each that is stands there or behind it
pub record IsFirst (operands : List Operand) (at : ℕ) : Type 0 where
  pub one : Operand
  pub there : In one operands
  pub narrow : IsNarrow one
  pub least : (o : Operand) → In o operands → IsNarrow o → one.at ≤ o.at
  pub stands : at ≡ one.at

-- the place of the first of them, or none is so narrow
abbrev pub FirstPlace : List Operand → Option ℕ → Type 0
FirstPlace operands None = (o : Operand) → In o operands → ¬ IsNarrow o
FirstPlace operands (Some at) = IsFirst operands at

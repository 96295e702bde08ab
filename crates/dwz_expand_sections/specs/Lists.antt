-- The operands of location lists that have new numbers (DWARF 5, 2.6.2 and 7.7.3).
use Rattle.std.specs.Prelude.{◌≡◌, ◌↔◌, ℕ, List, [], ◌∷◌, map, Option, Some, None}
use Rattle.dwz_def_reading.specs.declared.exprs.Operand.{Operand}
use Rattle.dwz_def_reading.specs.Files.{sources_of}
use Rattle.dwz_def_reading.specs.Lists.{In}
use Rattle.dwz_def_reading.specs.Patching.{renumbered}
use Rattle.dwz_def_reading.specs.Shared.{StandApart}
use Rattle.dwz_def_expand.specs.OneFile.{OneFile}
use Rattle.dwz_def_expand.specs.Output.{in_lists}
use Rattle.dwz_graph_resolve.specs.declared.operands.ListOperand.{ListOperand}
use Rattle.dwz_graph_resolve.specs.ListRows.{operand_view}
use Rattle.dwz_encode_sections.specs.Numbers.{spots}
use Rattle.dwz_expand_sections.specs.Narrow.{operand_after}

-- an operand with its new number
abbrev pub with_new : ListOperand → ℕ → Operand
with_new o n = record { at = o.at; width = o.width; uleb = o.uleb; base = o.base; number = n }

-- those that have one
unfoldable pub rows_with : List ListOperand → List (Option ℕ) → List ListOperand
rows_with (o ∷ operands) (Some n ∷ numbers) = o ∷ rows_with operands numbers
rows_with (o ∷ operands) (None ∷ numbers) = rows_with operands numbers
rows_with _ _ = []

-- their numbers
unfoldable pub numbers_of : List ListOperand → List (Option ℕ) → List ℕ
numbers_of (o ∷ operands) (Some n ∷ numbers) = n ∷ numbers_of operands numbers
numbers_of (o ∷ operands) (None ∷ numbers) = numbers_of operands numbers
numbers_of _ _ = []

-- those with their numbers
abbrev pub numbered : List ListOperand → List (Option ℕ) → List Operand
numbered operands numbers = renumbered (spots (rows_with operands numbers)) (numbers_of operands numbers)

-- The section is the file's, and none of the operands shares a byte with another; just those that values of the new file name have new
-- numbers, each its own.
pub record HasNumbers (f : OneFile) (section : List ℕ) (operands : List ListOperand) (numbers : List (Option ℕ)) : Type 0 where
  pub section_is : section ≡ (sources_of f.file.bytes).lists
  pub apart : StandApart (map (operand_view f.file.raw) operands)
  pub same : (o : Operand) → In o (numbered operands numbers) ↔ In o (map (operand_after f) (in_lists f))

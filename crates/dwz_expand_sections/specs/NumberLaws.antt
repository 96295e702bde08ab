-- Which new numbers the operands of a file's location lists have (DWARF 5, 2.6.2).
use Rattle.std.specs.Prelude.{◌≡◌, ℕ, List, Option, Some, slice_get}
use Rattle.dwz_def_expand.specs.OneFile.{OneFile, ReadsOne}
use Rattle.dwz_def_expand.specs.Output.{Spoken, in_lists, number_of_operand}
use Rattle.dwz_def_reading.specs.Files.{sources_of}
use Rattle.dwz_def_reading.specs.Lists.{In}
use Rattle.dwz_def_reading.specs.Shared.{IsSame, OneOf, of_unit}
use Rattle.dwz_graph_resolve.specs.declared.operands.ListOperand.{ListOperand}
use Rattle.dwz_graph_resolve.specs.ListRows.{operand_view}
use Rattle.dwz_expand_sections.specs.ListLaws.{AreListed}
use Rattle.dwz_expand_sections.specs.Lists.{HasNumbers}

-- an operand of the file's lists is that of a value
abbrev pub IsOperandOf : OneFile → ListOperand → Spoken → Type 0
IsOperandOf f row o = IsSame (operand_view f.file.raw row) (of_unit (operand_view f.file.raw row).unit o.operand)

-- that of a value of the new file has that one's number, and no other has a number
pub record GivesNumbers (f : OneFile) (operands : List ListOperand) (numbers : List (Option ℕ)) : Type 0 where
  pub own : (o : Spoken) (i : ℕ) (row : ListOperand) → In o (in_lists f) → slice_get operands i ≡ Some row → IsOperandOf f row o
      → slice_get numbers i ≡ Some (Some (number_of_operand f o))
  pub others : (i n : ℕ) (row : ListOperand) → slice_get operands i ≡ Some row → slice_get numbers i ≡ Some (Some n)
      → OneOf (in_lists f) (IsOperandOf f row)

abbrev pub ListNumbersLaw : Type 0
ListNumbersLaw =
    (f : OneFile) → ReadsOne f → (operands : List ListOperand) (numbers : List (Option ℕ)) → AreListed f operands
    → GivesNumbers f operands numbers
    → HasNumbers f (sources_of f.file.bytes).lists operands numbers

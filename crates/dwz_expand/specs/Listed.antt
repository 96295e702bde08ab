-- The operands of location lists that values of the new file name (DWARF 5, 2.6.2), with their new numbers.
use Rattle.std.specs.Prelude.{◌≡◌, List}
use Rattle.dwz_def_reading.specs.declared.exprs.Operand.{Operand}
use Rattle.dwz_def_reading.specs.Lists.{In}
use Rattle.dwz_def_reading.specs.Shared.{OneOf}
use Rattle.dwz_def_expand.specs.OneFile.{OneFile}
use Rattle.dwz_def_expand.specs.Output.{Spoken, in_lists}
use Rattle.dwz_expand_sections.specs.Narrow.{operand_after}

-- these are they, in any order, and as often as they are named
pub record AreTold (f : OneFile) (told : List Operand) : Type 0 where
  pub from : (t : Operand) → In t told → OneOf (in_lists f) (λ o. operand_after f o ≡ t)
  pub all : (o : Spoken) → In o (in_lists f) → In (operand_after f o) told

-- The operands of a file's location lists, each once, and those that values of the new file name (DWARF 5, 2.6.2).
use Rattle.std.specs.Prelude.{◌≡◌, List, length, map}
use Rattle.dwz_def_encoding.specs.Meant.{led_to}
use Rattle.dwz_def_expand.specs.OneFile.{OneFile, ReadsOne, around}
use Rattle.dwz_def_expand.specs.Output.{Spoken, in_lists}
use Rattle.dwz_def_reading.specs.Files.{sources_of}
use Rattle.dwz_def_reading.specs.Lists.{In}
use Rattle.dwz_def_reading.specs.NamedLists.{lists_of_units}
use Rattle.dwz_def_reading.specs.Places.{at_file}
use Rattle.dwz_def_reading.specs.Shared.{AreRows, IsSame, StandApart, of_unit}
use Rattle.dwz_graph_resolve.specs.declared.operands.ListOperand.{ListOperand}
use Rattle.dwz_graph_resolve.specs.ListRows.{operand_view}
use Rattle.dwz_encode_sections.specs.Numbers.{EndIn}

-- these are the operands of the lists that values of the file name, each once, in order of place
abbrev pub AreListed : OneFile → List ListOperand → Type 0
AreListed f operands = AreRows (lists_of_units (around f 0) f.file.raw) (map (operand_view f.file.raw) operands)

-- one of them is the operand of a value, which named the entry to which it leads in the unit of that one
pub record IsRowOf (f : OneFile) (operands : List ListOperand) (o : Spoken) : Type 0 where
  pub row : ListOperand
  pub there : In row operands
  pub same : IsSame (operand_view f.file.raw row) (of_unit (operand_view f.file.raw row).unit o.operand)
  pub target : o.target ≡ at_file 0 (led_to (operand_view f.file.raw row).unit o.operand)

-- they end within `.debug_loclists`, no two share a byte, and each that a value of the new file names is among them
pub record CanHaveNumbers (f : OneFile) (operands : List ListOperand) : Type 0 where
  pub within : EndIn (length (sources_of f.file.bytes).lists) operands
  pub apart : StandApart (map (operand_view f.file.raw) operands)
  pub each : (o : Spoken) → In o (in_lists f) → IsRowOf f operands o

abbrev pub ListsLaw : Type 0
ListsLaw = (f : OneFile) → ReadsOne f → (operands : List ListOperand) → AreListed f operands → CanHaveNumbers f operands

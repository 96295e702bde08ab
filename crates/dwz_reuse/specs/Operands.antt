-- The rows of operands of a file that was read by itself.
use Rattle.std.specs.Prelude.{ℕ, List, None, Some, map}
use Rattle.dwz_check_labels.specs.FilesSaid.{around_given}
use Rattle.dwz_def_reading.specs.NamedLists.{lists_of_units}
use Rattle.dwz_def_reading.specs.Shared.{AreRows}
use Rattle.dwz_graph.specs.Files.{HasCommon}
use Rattle.dwz_graph.specs.ListRows.{AreOfFile, operand_view}
use Rattle.dwz_graph.specs.declared.file.File.{File}
use Rattle.dwz_unit.specs.Rows.{units_of}

-- they are those of the location lists that its attributes name
pub record HasOperandRows (f : File) : Type 0 where
  pub number : ℕ
  pub rows : AreRows (lists_of_units (around_given f None) (units_of f.units))
      (map (operand_view (units_of f.units)) f.resolved.operands.items)
  pub of_file : AreOfFile (units_of f.units) number f.resolved.operands.items

-- so are those of the finished common file of a graph
abbrev pub OperandsLaw : Type 0
OperandsLaw = (number : ℕ) (bytes : List ℕ) (f : File) → HasCommon number (Some bytes) (Some f) → HasOperandRows f

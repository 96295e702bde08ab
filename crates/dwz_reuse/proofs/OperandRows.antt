-- The rows of operands of the common file of a graph.
use Rattle.std.proofs.Common.{◌≡◌, ℕ, List, None, map, sym, subst}
use Rattle.dwz_check_labels.specs.FilesSaid.{around_given}
use Rattle.dwz_def_reading.specs.Files.{no_files_before}
use Rattle.dwz_def_reading.specs.Finished.{rule_of_common}
use Rattle.dwz_def_reading.specs.Meanings.{Around, all_places}
use Rattle.dwz_def_reading.specs.NamedLists.{lists_of_units}
use Rattle.dwz_def_reading.specs.Rules.{ReadingRule}
use Rattle.dwz_def_reading.specs.Shared.{AreRows}
use Rattle.dwz_def_reading.specs.Units.{RawUnit}
use Rattle.dwz_graph.specs.ByRule.{IsReadBy, numbered_rule}
use Rattle.dwz_graph.specs.ListRows.{operand_view}
use Rattle.dwz_graph.specs.declared.file.File.{File}
use Rattle.dwz_unit.specs.Rows.{units_of}
use Rattle.dwz_unit.specs.declared.mode.FileKind.TheVariants.{Common}
use Rattle.dwz_reuse.specs.Operands.{HasOperandRows, OperandsLaw}

module _ (number : ℕ) (bytes : List ℕ) (f : File) (h : IsReadBy (numbered_rule (rule_of_common number)) Common no_files_before number bytes f) where
  abbrev rule : ReadingRule ℕ
  rule = numbered_rule (rule_of_common number)

  abbrev raw : List RawUnit
  raw = units_of f.units

  same_around : rule.around bytes raw ≡ around_given f None
  same_around = λ j. record { sources = sym h.sections j; all = all_places raw; place = λ n. n; common = None }

  pub has_rows : HasOperandRows f
  has_rows = record {
    number = number;
    rows = subst (λ (a : Around ℕ). AreRows (lists_of_units a raw) (map (operand_view raw) f.resolved.operands.items)) same_around h.operands;
    of_file = h.of_file;
  }

pub operands_law : OperandsLaw
operands_law number bytes f h = has_rows number bytes f h

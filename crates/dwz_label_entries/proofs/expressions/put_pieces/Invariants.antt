use Rattle.std.proofs.Common.{◌≡◌, ◌++◌, drop}
use Rattle.std.specs.List.{flat_map}
use Rattle.dwz_label.specs.Labels.{part_label}
use Rattle.dwz_def_reading.specs.Exprs.{parts_from}
use Rattle.dwz_label_entries.proofs.expressions.put_pieces.Given as goal

abbrev pub invariant-loop-operand : goal.invariant-loop-operand
invariant-loop-operand l = l.out.items ++ flat_map part_label (parts_from l.place l.rest (drop l.operand-index l.operands)) ≡ l.fn.out.items ++ flat_map part_label (parts_from l.at l.bytes l.operands)

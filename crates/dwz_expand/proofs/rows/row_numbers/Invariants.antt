use Rattle.std.proofs.Common.{take}
use Rattle.dwz_expand.specs.Rows.{AreNumbered}
use Rattle.dwz_expand.proofs.rows.row_numbers.Given as goal

abbrev pub invariant-loop-operand : goal.invariant-loop-operand
invariant-loop-operand l = AreNumbered l.operands (take l.operand-index l.told) l.numbers.items

use Rattle.std.proofs.Common.{take}
use Rattle.dwz_expand_sections.specs.Narrow.{FirstPlace}
use Rattle.dwz_expand_sections.proofs.narrow.first_narrow.Given as goal

abbrev pub invariant-loop-operand : goal.invariant-loop-operand
invariant-loop-operand l = FirstPlace (take l.operand-index l.operands) l.first

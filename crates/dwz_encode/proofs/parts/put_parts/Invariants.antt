use Rattle.std.proofs.Common.{◌≡◌, ◌++◌, drop}
use Rattle.dwz_encode.specs.Views.{numbers_view}
use Rattle.dwz_encode.proofs.ByteLemmas.{parts_left}
use Rattle.dwz_encode.proofs.parts.put_parts.Given as goal

abbrev pub invariant-loop-operand : goal.invariant-loop-operand
invariant-loop-operand l =
    l.out.items ++ parts_left l.known l.file (numbers_view l.numbers) l.next l.at l.left (drop l.operand-index l.operands)
    ≡ l.fn.out.items ++ parts_left l.known l.file (numbers_view l.numbers) l.first l.start l.bytes l.operands

use Rattle.std.proofs.Common.{◌≡◌, ◌++◌, drop}
use Rattle.dwz_expand_layout.specs.Entries.{parts_page}
use Rattle.dwz_expand_layout.specs.Written.{numbers_view}
use Rattle.dwz_expand_layout.proofs.parts.put_parts.Given as goal

abbrev pub invariant-loop-operand : goal.invariant-loop-operand
invariant-loop-operand l =
    l.out.items ++ parts_page (numbers_view l.numbers) l.at l.left (drop l.operand-index l.operands)
    ≡ l.fn.out.items ++ parts_page (numbers_view l.numbers) l.start l.bytes l.operands

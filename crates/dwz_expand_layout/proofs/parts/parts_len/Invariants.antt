use Rattle.std.proofs.Common.{◌≡◌, ◌+◌, drop, length}
use Rattle.dwz_layout.specs.Attributes.{no_numbers}
use Rattle.dwz_expand_layout.specs.Entries.{parts_page}
use Rattle.dwz_expand_layout.proofs.parts.parts_len.Given as goal

abbrev pub invariant-loop-operand : goal.invariant-loop-operand
invariant-loop-operand l =
    l.len + length (parts_page no_numbers l.at l.left (drop l.operand-index l.operands)) ≡ length (parts_page no_numbers l.start l.bytes l.operands)

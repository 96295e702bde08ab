use Rattle.std.proofs.Common.{◌≡◌, ◌++◌, length, take}
use Rattle.dwz_layout_order.specs.Lists.{rows_from}
use Rattle.dwz_layout_order.proofs.spaces.push_rows.Given as goal

abbrev pub invariant-loop-space : goal.invariant-loop-space
invariant-loop-space l = l.rows.items ≡ l.fn.rows.items ++ rows_from (length l.fn.rows.items) (take l.space-index l.spaces)

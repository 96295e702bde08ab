use Rattle.std.proofs.Common.{◌≡◌, take}
use Rattle.dwz_layout_order.specs.Lists.{all_spaces, rows_from}
use Rattle.dwz_layout_order.proofs.spaces.space_rows.Given as goal

abbrev pub invariant-loop-index : goal.invariant-loop-index
invariant-loop-index l = l.rows.items ≡ rows_from 0 (all_spaces (take l.index-index l.indexes))

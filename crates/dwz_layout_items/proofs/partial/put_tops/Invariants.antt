use Rattle.std.proofs.Common.{◌≡◌, ◌++◌, take}
use Rattle.dwz_def_tops.specs.Spots.{EntryName}
use Rattle.dwz_layout_items.specs.Chains.{tops_lines}
use Rattle.dwz_layout_items.specs.Order.{Names, order_lines}
use Rattle.dwz_layout_items.proofs.partial.put_tops.Given as goal

abbrev pub invariant-loop-top : goal.invariant-loop-top
invariant-loop-top l = (names : Names EntryName) → order_lines names l.order.items ≡ order_lines names l.fn.order.items ++ tops_lines names l.depth (take l.top-index l.tops)

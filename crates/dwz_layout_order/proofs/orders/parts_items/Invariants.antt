use Rattle.std.proofs.Common.{take}
use Rattle.dwz_layout_order.specs.Steps.{NumbersPut}
use Rattle.dwz_layout_order.proofs.orders.parts_items.Given as goal

abbrev pub invariant-loop-number : goal.invariant-loop-number
invariant-loop-number l = NumbersPut l.settled (take l.number-index l.numbers) l.order.items

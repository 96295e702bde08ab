use Rattle.dwz_layout_order.proofs.FileSteps.{Going}
use Rattle.dwz_layout_order.proofs.orders.orders_behind.Given as goal

abbrev pub invariant-loop-number : goal.invariant-loop-number
invariant-loop-number l = Going l.settled l.files l.indexes l.fn.common.items l.number l.start l.orders.items

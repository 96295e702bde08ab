use Rattle.dwz_layout_order.proofs.ListNumbers.{Numbering}
use Rattle.dwz_layout_order.proofs.spaces.number_lists.Given as goal

abbrev pub invariant-loop-k : goal.invariant-loop-k
invariant-loop-k l = Numbering l.rows l.texts l.k l.lists.items l.seen

use Rattle.std.proofs.Common.{take}
use Rattle.dwz_layout_items.proofs.GroupLemmas.{Seen}
use Rattle.dwz_layout_items.proofs.chains.number_lists.Given as goal

abbrev pub invariant-loop-top : goal.invariant-loop-top
invariant-loop-top l = Seen l.of_tops (take l.top-index l.tops) l.lists.keys l.pairs.items

use Rattle.std.proofs.Common.{take}
use Rattle.dwz_plan.proofs.ListingLemmas.{Numbers, seen}
use Rattle.dwz_plan.proofs.parts.number_lists.Given as goal

abbrev pub invariant-loop-mover : goal.invariant-loop-mover
invariant-loop-mover l = Numbers l.users (take l.mover-index l.movers) (seen l.lists.keys) l.firsts.items l.pairs.items

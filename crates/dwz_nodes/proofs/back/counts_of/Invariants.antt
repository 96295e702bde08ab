use Rattle.dwz_nodes.proofs.Counts.{Counted}
use Rattle.dwz_nodes.proofs.back.counts_of.Given as goal

abbrev pub invariant-loop-target : goal.invariant-loop-target
invariant-loop-target l = Counted l.count l.targets l.target-index l.counts.items

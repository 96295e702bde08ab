use Rattle.dwz_strs.proofs.PruneSteps.{SoFar}
use Rattle.dwz_strs.proofs.pruning.prune_sorted.Given as goal

abbrev pub invariant-loop-used : goal.invariant-loop-used
invariant-loop-used l = SoFar l.section l.used-items l.used-index l.end l.bytes.items l.numbers.items

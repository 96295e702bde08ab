use Rattle.dwz_run_files.proofs.PruneSteps.{Keeping}
use Rattle.dwz_run_files.proofs.pruned.prune_files.Given as goal

abbrev pub invariant-loop-number : goal.invariant-loop-number
invariant-loop-number l = Keeping l.graph.given l.known l.written l.prunes l.number l.pruned.items

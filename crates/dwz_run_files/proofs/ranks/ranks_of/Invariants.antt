use Rattle.dwz_run_files.proofs.RankSteps.{Ranking}
use Rattle.dwz_run_files.proofs.ranks.ranks_of.Given as goal

abbrev pub invariant-loop-is_written : goal.invariant-loop-is_written
invariant-loop-is_written l = Ranking l.written l.is_written-index l.next l.ranks.items

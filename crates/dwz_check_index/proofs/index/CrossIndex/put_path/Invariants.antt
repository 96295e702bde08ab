use Rattle.dwz_check_index.proofs.WayLemmas.{GoesUp, OnWay}
use Rattle.dwz_check_index.proofs.index.CrossIndex.put_path.Given as goal

abbrev pub invariant-loop-self : goal.invariant-loop-self
invariant-loop-self l = GoesUp l.self.steps l.entry l.at (λ names entries name. OnWay names l.at l.path.items l.fn.path.items name)

abbrev pub decreases-loop-self : goal.decreases-loop-self
decreases-loop-self l = l.at

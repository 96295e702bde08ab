use Rattle.dwz_check_index.proofs.WayLemmas.{GoesUp, OnSpaces}
use Rattle.dwz_check_index.proofs.index.CrossIndex.put_spaces.Given as goal

abbrev pub invariant-loop-self : goal.invariant-loop-self
invariant-loop-self l = GoesUp l.self.steps l.entry l.at (λ names entries name. OnSpaces names entries l.at l.spaces.items l.fn.spaces.items name)

abbrev pub decreases-loop-self : goal.decreases-loop-self
decreases-loop-self l = l.at

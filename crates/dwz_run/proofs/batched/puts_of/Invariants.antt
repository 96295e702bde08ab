use Rattle.std.proofs.Common.{◌≡◌, ◌++◌, ℕ, List, length}
use Rattle.dwz_batch.specs.declared.job.Outcome.{Outcome}
use Rattle.dwz_run.proofs.JobsDone.{puts_in}
use Rattle.dwz_run.proofs.batched.puts_of.Given as goal

abbrev pub invariant-loop-outcome : goal.invariant-loop-outcome
invariant-loop-outcome l =
    (done : List Outcome) × (done ++ l.outcome-iterator.rest.items ≡ l.fn.outcomes) × (l.number ≡ length done)
    × ((contents : List (List ℕ)) → l.puts.items ≡ puts_in l.options contents done)

use Rattle.std.proofs.Common.{◌<◌, All, length}
use Rattle.dwz_graph.proofs.ahead.jobs_of.Given as goal

abbrev pub invariant-loop-number : goal.invariant-loop-number
invariant-loop-number l = All (λ job. job.number < length l.files) l.jobs.items

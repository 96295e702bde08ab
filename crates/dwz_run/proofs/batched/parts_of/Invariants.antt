use Rattle.std.proofs.Common.{◌≡◌, map, take}
use Rattle.dwz_run.proofs.JobsDone.{parts_in}
use Rattle.dwz_run.proofs.batched.parts_of.Given as goal

abbrev pub invariant-loop-number : goal.invariant-loop-number
invariant-loop-number l = l.parts.items ≡ parts_in l.options (map (λ c. c.items) l.contents) (take l.number l.outcomes)

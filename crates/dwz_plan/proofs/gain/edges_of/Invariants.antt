use Rattle.std.proofs.Common.{◌≡◌, take}
use Rattle.dwz_plan.specs.Gaining.{edges_from}
use Rattle.dwz_plan.proofs.gain.edges_of.Given as goal

abbrev pub invariant-loop-top : goal.invariant-loop-top
invariant-loop-top l = l.edges.items ≡ edges_from l.groups (take l.top l.groups) (take l.top l.targets)

use Rattle.std.proofs.Common.{◌≡◌, ◌++◌, take}
use Rattle.dwz_plan.specs.Gaining.{edges_at}
use Rattle.dwz_plan.proofs.gain.push_edges.Given as goal

abbrev pub invariant-loop-target : goal.invariant-loop-target
invariant-loop-target l = l.edges.items ≡ l.fn.edges.items ++ edges_at l.groups l.from (take l.target-index l.targets)

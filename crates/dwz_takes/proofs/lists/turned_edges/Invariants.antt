use Rattle.std.proofs.Common.{◌≡◌, take}
use Rattle.dwz_takes.specs.Steps.{edges_from, turned}
use Rattle.dwz_takes.proofs.lists.turned_edges.Given as goal

abbrev pub invariant-loop-number : goal.invariant-loop-number
invariant-loop-number l = l.edges.items ≡ edges_from turned 0 (take l.number l.lists)

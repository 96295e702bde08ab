use Rattle.std.proofs.Common.{◌≡◌, ◌+◌, ◌++◌, drop}
use Rattle.dwz_check_labels.specs.Rows.{edges_from}
use Rattle.dwz_reuse.proofs.joined.put_lists.Given as goal

abbrev pub invariant-loop-number : goal.invariant-loop-number
invariant-loop-number l = l.edges.items ++ edges_from (l.first + l.number) (drop l.number l.lists) ≡ l.fn.edges.items ++ edges_from l.first l.lists

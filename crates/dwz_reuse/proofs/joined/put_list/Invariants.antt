use Rattle.std.proofs.Common.{◌≡◌, ◌++◌, map, drop}
use Rattle.dwz_check_labels.specs.Rows.{edge}
use Rattle.dwz_reuse.proofs.joined.put_list.Given as goal

abbrev pub invariant-loop-value : goal.invariant-loop-value
invariant-loop-value l = l.edges.items ++ map (edge l.key) (drop l.value-index l.list) ≡ l.fn.edges.items ++ map (edge l.key) l.list

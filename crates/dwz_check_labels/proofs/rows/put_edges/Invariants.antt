use Rattle.std.proofs.Common.{◌≡◌, ◌++◌, map, drop}
use Rattle.dwz_check_labels.specs.Rows.{edge}
use Rattle.dwz_check_labels.proofs.rows.put_edges.Given as goal

abbrev pub invariant-loop-top : goal.invariant-loop-top
invariant-loop-top l = l.edges.items ++ map (edge l.key) (drop l.top-index l.tops) ≡ l.fn.edges.items ++ map (edge l.key) l.tops

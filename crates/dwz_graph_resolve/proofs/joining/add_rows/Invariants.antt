use Rattle.std.proofs.Common.{◌≡◌, ◌++◌, map, take}
use Rattle.dwz_graph_resolve.specs.ListRows.{raised}
use Rattle.dwz_graph_resolve.proofs.joining.add_rows.Given as goal

abbrev pub invariant-loop-row : goal.invariant-loop-row
invariant-loop-row l = l.rows.items ≡ l.fn.rows.items ++ map (raised l.operands) (take l.row-index l.more)

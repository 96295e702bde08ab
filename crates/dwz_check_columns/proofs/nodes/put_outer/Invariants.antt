use Rattle.std.proofs.Common.{◌≡◌, ◌++◌, map, take, get_or}
use Rattle.dwz_check_columns.proofs.nodes.put_outer.Given as goal

abbrev pub invariant-loop-top : goal.invariant-loop-top
invariant-loop-top l = l.names.items ≡ l.fn.names.items ++ map (λ t. get_or l.numbers t.outer 0) (take l.top-index l.tops)

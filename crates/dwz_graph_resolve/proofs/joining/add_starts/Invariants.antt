use Rattle.std.proofs.Common.{◌≡◌, ◌+◌, ◌++◌, map, take}
use Rattle.dwz_graph_resolve.proofs.joining.add_starts.Given as goal

abbrev pub invariant-loop-start : goal.invariant-loop-start
invariant-loop-start l = l.starts.items ≡ l.fn.starts.items ++ map (λ k. l.from + k) (take l.start-index l.more)

use Rattle.std.proofs.Common.{◌≡◌, ◌++◌, map, take}
use Rattle.dwz_match.specs.Parts.{edge_to}
use Rattle.dwz_layout_input.proofs.behind.put_edges.Given as goal

abbrev pub invariant-loop-target : goal.invariant-loop-target
invariant-loop-target l = l.edges.items ≡ l.fn.edges.items ++ map (edge_to l.top) (take l.target-index l.targets)

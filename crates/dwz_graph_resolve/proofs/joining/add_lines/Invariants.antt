use Rattle.std.proofs.Common.{◌≡◌, ◌+◌, ◌++◌, map, take}
use Rattle.std.specs.Option.{option_map}
use Rattle.dwz_graph_resolve.proofs.joining.add_lines.Given as goal

abbrev pub invariant-loop-line : goal.invariant-loop-line
invariant-loop-line l = l.lines.items ≡ l.fn.lines.items ++ map (option_map (λ k. l.tables + k)) (take l.line-index l.more)

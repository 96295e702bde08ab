use Rattle.std.proofs.Common.{All, map}
use Rattle.dwz_graph.specs.Ahead.{IsFound}
use Rattle.dwz_graph.proofs.ahead.read_drawn.Given as goal

abbrev pub invariant-loop-draw : goal.invariant-loop-draw
invariant-loop-draw g l = All (IsFound (map (λ v. v.items) l.files)) l.found.items

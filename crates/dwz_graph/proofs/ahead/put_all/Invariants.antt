use Rattle.std.proofs.Common.{All, map}
use Rattle.dwz_graph.specs.Ahead.{AreAhead, IsFound}
use Rattle.dwz_graph.proofs.ahead.put_all.Given as goal

abbrev pub invariant-loop-number : goal.invariant-loop-number
invariant-loop-number l = record {
  found : All (IsFound (map (λ v. v.items) l.files)) l.found.items;
  ahead : AreAhead (map (λ v. v.items) l.files) l.ahead;
}

abbrev pub decreases-loop-number : goal.decreases-loop-number
decreases-loop-number l = goal.left-loop-number l

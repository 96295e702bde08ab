use Rattle.std.proofs.Common.{◌≡◌, All, length, map}
use Rattle.dwz_graph.specs.Ahead.{AreAhead, IsFound}
use Rattle.dwz_graph.proofs.ahead.read_ahead.Given as goal

abbrev pub invariant-loop-some : goal.invariant-loop-some
invariant-loop-some g l = record {
  len : length l.ahead.items ≡ length l.files;
  found : All (λ some. All (IsFound (map (λ v. v.items) l.files)) some.items) l.found.items;
  ahead : AreAhead (map (λ v. v.items) l.files) l.ahead.items;
}

abbrev pub decreases-loop-some : goal.decreases-loop-some
decreases-loop-some g l = goal.left-loop-some g l

use Rattle.std.proofs.Common.{◌≡◌, ℕ, ◌<◌, length}
use Rattle.dwz_nodes.specs.Keys.{key, key_at}
use Rattle.dwz_nodes.proofs.keys.fill.Given as goal

abbrev pub invariant-loop-a : goal.invariant-loop-a
invariant-loop-a l = record {
  len : length l.keys ≡ l.a;
  each : (b : ℕ) → b < l.a → key_at l.keys b ≡ key l.nodes l.classes b;
}

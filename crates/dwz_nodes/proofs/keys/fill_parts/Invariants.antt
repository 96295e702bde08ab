use Rattle.std.proofs.Common.{◌≡◌, ℕ, ◌<◌, length}
use Rattle.std.specs.Prelude.{slice_index}
use Rattle.dwz_nodes.specs.Keys.{key_at}
use Rattle.dwz_nodes.specs.Mentions.{part_key}
use Rattle.dwz_nodes.proofs.keys.fill_parts.Given as goal

abbrev pub invariant-loop-a : goal.invariant-loop-a
invariant-loop-a l = record {
  len : length l.keys ≡ l.a-index;
  each : (i : ℕ) → i < l.a-index → key_at l.keys i ≡ part_key l.numbers l.mentions (slice_index l.visit i);
}

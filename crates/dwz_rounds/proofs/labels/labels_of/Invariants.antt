use Rattle.std.proofs.Common.{◌≡◌, ℕ, ◌<◌, All, length}
use Rattle.std.specs.Prelude.{slice_index}
use Rattle.dwz_nodes.specs.Graph.{label_at}
use Rattle.dwz_rounds.proofs.labels.labels_of.Given as goal

abbrev pub invariant-loop-a : goal.invariant-loop-a
invariant-loop-a l = record {
  len : length l.labels.items ≡ l.a;
  below : All (λ x. x < length l.nodes) l.labels.items;
  each : (b : ℕ) → b < l.a → slice_index l.labels.items b ≡ label_at l.nodes b;
}

use Rattle.std.proofs.Common.{◌≡◌, ℕ, ◌<◌, [], false, length}
use Rattle.std.specs.Prelude.{if◌then◌else◌, slice_index, slice_index_or}
use Rattle.dwz_nodes.specs.Graph.{node, node_at}
use Rattle.dwz_label.proofs.made.nodes.Given as goal

abbrev pub invariant-loop-n : goal.invariant-loop-n
invariant-loop-n l = record {
  len : length l.nodes ≡ l.n;
  each : (i : ℕ) → i < l.n → node_at l.nodes i ≡ node (slice_index l.firsts i) (if slice_index_or l.movable i false then slice_index_or l.targets i [] else []);
}

use Rattle.std.proofs.Common.{◌≡◌, ℕ, ◌<◌, length, take}
use Rattle.dwz_nodes.specs.Keys.{key_at}
use Rattle.dwz_nodes.specs.Order.{nodes_of, keys_of, IsNewAt}
use Rattle.dwz_nodes.proofs.order.mark_groups.Given as goal

abbrev pub invariant-loop-at : goal.invariant-loop-at
invariant-loop-at l = record {
  len : length l.news.items ≡ l.at;
  nodes : l.nodes.items ≡ nodes_of (take l.at l.rows);
  each : (i : ℕ) → i < l.at → IsNewAt (λ j. key_at (keys_of l.rows) j) l.news.items i;
}

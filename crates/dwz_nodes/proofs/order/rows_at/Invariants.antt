use Rattle.std.proofs.Common.{◌≡◌, All, length, take}
use Rattle.dwz_nodes.specs.Keys.{key_at, words_hash}
use Rattle.dwz_nodes.specs.Order.{nodes_of}
use Rattle.dwz_nodes.proofs.order.rows_at.Given as goal

abbrev pub invariant-loop-at : goal.invariant-loop-at
invariant-loop-at l = record {
  len : length l.rows.items ≡ l.at;
  nodes : nodes_of l.rows.items ≡ take l.at l.nodes;
  keys : All (λ r. r.key.now ≡ key_at l.keys r.node) l.rows.items;
  hashed : All (λ r. r.hash ≡ words_hash r.key.now) l.rows.items;
}

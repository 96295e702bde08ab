use Rattle.std.proofs.Common.{◌≡◌, All, length, take}
use Rattle.dwz_nodes.specs.Keys.{words_hash}
use Rattle.dwz_nodes.specs.Order.{nodes_of, keys_of}
use Rattle.dwz_nodes.proofs.order.rows_of.Given as goal

abbrev pub invariant-loop-at : goal.invariant-loop-at
invariant-loop-at l = record {
  len : length l.rows.items ≡ l.at;
  nodes : nodes_of l.rows.items ≡ take l.at l.nodes;
  keys : keys_of l.rows.items ≡ take l.at l.keys;
  hashed : All (λ r. r.hash ≡ words_hash r.key.now) l.rows.items;
}

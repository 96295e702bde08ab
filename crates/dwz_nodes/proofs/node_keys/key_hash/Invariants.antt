use Rattle.std.proofs.Common.{◌≡◌, ◌∷◌, take}
use Rattle.std.specs.Prelude.{map, slice_index}
use Rattle.dwz_nodes.specs.Graph.{label_at}
use Rattle.dwz_nodes.specs.Keys.{words_hash}
use Rattle.dwz_nodes.proofs.node_keys.key_hash.Given as goal

abbrev pub invariant-loop-target : goal.invariant-loop-target
invariant-loop-target l = l.hash ≡ words_hash (label_at l.nodes l.a ∷ map (λ t. slice_index l.classes t) (take l.target-index l.target-items))

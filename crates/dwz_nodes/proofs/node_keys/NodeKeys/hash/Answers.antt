use Rattle.std.proofs.Common.{List, ℕ, ap, length, ◌<◌, subst, sym, ◌∙◌}
use Rattle.dwz_nodes.specs.Keys.{key_at, words_hash}
use Rattle.dwz_nodes.proofs.AllKeys.{all_keys-at, length-all_keys}
use Rattle.dwz_nodes.proofs.node_keys.NodeKeys.hash.Goals as goal

pub key_hash-requires-clause-inside : goal.key_hash-requires-clause-inside
key_hash-requires-clause-inside c =
    subst (λ (n : ℕ). c.args.node < n) (ap (λ (k : List (List ℕ)). length k) (sym c.self.view_is) ∙ length-all_keys c.self.inside.nodes.now c.self.inside.classes.now) c.requires

pub returns : goal.returns
returns c =
    let inside = subst (λ (n : ℕ). c.args.node < n) (ap (λ (k : List (List ℕ)). length k) (sym c.self.view_is) ∙ length-all_keys c.self.inside.nodes.now c.self.inside.classes.now) c.requires in
    c.key_hash.ensures
    ∙ ap words_hash (sym (all_keys-at c.self.inside.nodes.now c.self.inside.classes.now c.args.node inside) ∙ ap (λ (k : List (List ℕ)). key_at k c.args.node) c.self.view_is)

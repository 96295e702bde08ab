use Rattle.std.proofs.Common.{◌≡◌, List, ℕ, ap, length, ◌<◌, subst, sym, ◌∙◌}
use Rattle.dwz_nodes.specs.Keys.{key, key_at}
use Rattle.dwz_nodes.proofs.AllKeys.{all_keys-at, length-all_keys}
use Rattle.dwz_nodes.proofs.node_keys.NodeKeys.is_same.Goals as goal

pub have_one_key-requires-clause-inside : goal.have_one_key-requires-clause-inside
have_one_key-requires-clause-inside c =
    subst (λ (n : ℕ). (c.args.a < n) × (c.args.b < n)) (ap (λ (k : List (List ℕ)). length k) (sym c.self.view_is) ∙ length-all_keys c.self.inside.nodes.now c.self.inside.classes.now) c.requires.inside

pub returns-else-a-b : goal.returns-else-a-b
returns-else-a-b c =
    let g = c.self.inside.nodes.now in
    let classes = c.self.inside.classes.now in
    let inside = subst (λ (n : ℕ). (c.args.a < n) × (c.args.b < n)) (ap (λ (k : List (List ℕ)). length k) (sym c.self.view_is) ∙ length-all_keys g classes) c.requires.inside in
    let first : key_at c.args.self.now c.args.a ≡ key g classes c.args.a = ap (λ (k : List (List ℕ)). key_at k c.args.a) (sym c.self.view_is) ∙ all_keys-at g classes c.args.a inside.0 in
    let second : key_at c.args.self.now c.args.b ≡ key g classes c.args.b = ap (λ (k : List (List ℕ)). key_at k c.args.b) (sym c.self.view_is) ∙ all_keys-at g classes c.args.b inside.1 in
    (λ t. first ∙ (c.have_one_key.ensures.0 t ∙ sym second), λ e. c.have_one_key.ensures.1 (sym first ∙ (e ∙ second)))

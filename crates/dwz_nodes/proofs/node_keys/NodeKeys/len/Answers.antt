use Rattle.std.proofs.Common.{List, ℕ, ap, length, sym, ◌∙◌}
use Rattle.dwz_nodes.proofs.AllKeys.{length-all_keys}
use Rattle.dwz_nodes.proofs.node_keys.NodeKeys.len.Goals as goal

pub returns : goal.returns
returns c = c.len.ensures.count ∙ (sym (length-all_keys c.self.inside.nodes.now c.self.inside.classes.now) ∙ ap (λ (k : List (List ℕ)). length k) c.self.view_is)

use Rattle.std.proofs.Common.{◌∙◌}
use Rattle.dwz_nodes.proofs.AllKeys.{are-all}
use Rattle.dwz_nodes.proofs.node_keys.NodeKeys.to_keys.Goals as goal

pub returns : goal.returns
returns c = are-all c.self.inside.nodes.now c.self.inside.classes.now c.fill.new.keys c.in_ok-fill.ensures.keys ∙ c.self.view_is

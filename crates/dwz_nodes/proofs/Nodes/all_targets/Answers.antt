use Rattle.std.proofs.Common.{sym, ap, ◌∙◌}
use Rattle.dwz_nodes.specs.Rooms.{all_targets}
use Rattle.dwz_nodes.proofs.Flat.{all_targets-nodes_of}
use Rattle.dwz_nodes.proofs.Nodes.all_targets.Goals as goal

pub returns : goal.returns
returns c = c.as_slice.ensures.value ∙ (sym (all_targets-nodes_of c.self.inside.rows.items c.self.inside.targets.items c.self.invariant.1) ∙ ap all_targets c.self.view_is)

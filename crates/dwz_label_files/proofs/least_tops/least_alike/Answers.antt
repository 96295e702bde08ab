use Rattle.dwz_label.proofs.LeastAlike.{least_tops}
use Rattle.dwz_label_files.proofs.least_tops.least_alike.Goals as goal

pub refine-requires-clause-closed : goal.refine-requires-clause-closed
refine-requires-clause-closed g c κs within = c.in_ok-nodes.ensures.closed

pub returns : goal.returns
returns g c = λ units shown. least_tops units c.in_ok-nodes.nodes (c.in_ok-nodes.ensures.nodes units shown) c.in_ok-least.least c.in_ok-least.ensures

use Rattle.dwz_nodes.proofs.Ordering.{not-first-is-new}
use Rattle.dwz_nodes.proofs.order.is_new.Goals as goal

pub returns-else-at-eq0 : goal.returns-else-at-eq0
returns-else-at-eq0 c = not-first-is-new c.args.rows.now c.args.at c.is_same_key.result c.requires.inside c.if-at-eq0.false c.requires.together c.is_same_key.ensures.0 c.is_same_key.ensures.1

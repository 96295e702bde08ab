use Rattle.dwz_expr.proofs.NestedLemmas.{plainer}
use Rattle.dwz_expr.proofs.plain.operator_at.Goals as goal

pub returns-in_default : goal.returns-in_default
returns-in_default c = plainer c.args.bytes.now c.args.at c.shaped_at.result c.shaped_at.ensures

use Rattle.std.proofs.Common.{ℕ, List, subst}
use Rattle.dwz_expr.specs.Few.{NamesNone}
use Rattle.dwz_graph_resolve.proofs.expressions.is_plain_expression.Goals as goal

pub returns : goal.returns
returns c = λ plain. subst (λ (w : List ℕ). NamesNone w) c.bytes_of.ensures (c.is_plain.ensures plain)

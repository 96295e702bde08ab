use Rattle.std.proofs.Common.{length}
use Rattle.std.proofs.lemmas.Bool.{eqb-true}
use Rattle.dwz_expr.proofs.FewLemmas.{plain_alone}
use Rattle.dwz_expr.proofs.plain.is_plain.Goals as goal

pub returns : goal.returns
returns c = λ yes section at. (
  c.plain_front.result.address,
  plain_alone c.args.bytes.now c.plain_front.result c.plain_front.ensures at section (eqb-true c.plain_front.result.end (length c.args.bytes.now) yes),
)

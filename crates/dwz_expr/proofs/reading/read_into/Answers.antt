use Rattle.dwz_expr.proofs.FewLemmas.{plain_whole}
use Rattle.dwz_expr.proofs.reading.read_into.Goals as goal

pub returns-then-plain-bytes-clause-found : goal.returns-then-plain-bytes-clause-found
returns-then-plain-bytes-clause-found c =
    plain_whole c.args.bytes.now c.plain_front-plain.result c.plain_front-plain.ensures c.args.at c.args.section c.args.operands.now.items c.if-plain-bytes.true

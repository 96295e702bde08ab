use Rattle.std.proofs.Common.{Some, ap}
use Rattle.dwz_expand.proofs.RowLemmas.{is_there, not_other}
use Rattle.dwz_expand.proofs.rows.row_at.Goals as goal

pub returns-then-operands-i-clause-found : goal.returns-then-operands-i-clause-found
returns-then-operands-i-clause-found c = λ rise i row got is.
    ap Some (is_there c.args.operands.now c.args.at c.from_place-i.result c.from_place-i.ensures.within c.from_place-i.ensures.begin rise i row got is)

pub returns-else-operands-i-clause-found : goal.returns-else-operands-i-clause-found
returns-else-operands-i-clause-found c = λ rise i row got is.
    absurd (not_other c.args.operands.now c.args.at c.from_place-i.result c.from_place-i.ensures.within c.from_place-i.ensures.begin rise i row got is _ c.if-operands-i.false)

use Rattle.std.proofs.lemmas.Option.{same_Some}
use Rattle.dwz_expand.proofs.RowLemmas.{none_noted, one_noted}
use Rattle.dwz_expand.proofs.rows.note.Goals as goal

pub returns-in-Some-clause-noted : goal.returns-in-Some-clause-noted
returns-in-Some-clause-noted c = λ told are.
    one_noted c.args.operands.now told c.args.operand.now c.args.numbers.now.items are c.in-Some.i c.in-Some.ensures.within c.in-Some.ensures.there
    (λ rise j row got at. same_Some c.in-Some.i j (c.in-Some.ensures.found rise j row got at))

pub returns-in_default-clause-noted : goal.returns-in_default-clause-noted
returns-in_default-clause-noted c = λ told are.
    none_noted c.args.operands.now told c.args.operand.now c.args.numbers.now.items are (λ rise j row got at. c.in_default.not-Some j (c.row_at.ensures.found rise j row got at))

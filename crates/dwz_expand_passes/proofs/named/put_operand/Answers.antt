use Rattle.std.proofs.lemmas.Result.{err_from_is_err_and}
use Rattle.dwz_expand_passes.proofs.OperandLemmas.{operand_err}
use Rattle.dwz_expand_passes.proofs.named.put_operand.Goals as goal

pub returns-in_err-copy : goal.returns-in_err-copy
returns-in_err-copy c = λ q p fits stands. (
    let e = err_from_is_err_and c.from_residual.result c.from_residual.ensures.1 in
    rw (e.1, e.2) (operand_err q c.args.operand.now p c.args.operands.now.items c.args.operands.now.items c.in_err-copy.field-0.0 (c.in_err-copy.ensures q p fits stands)))

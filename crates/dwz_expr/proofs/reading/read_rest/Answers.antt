use Rattle.std.proofs.lemmas.Result.{err_from_is_err_and}
use Rattle.dwz_expr.specs.Gathering.{added}
use Rattle.dwz_expr.proofs.FewLemmas.{plain_fails, plain_gives}
use Rattle.dwz_expr.proofs.reading.read_rest.Goals as goal

pub returns-in_err-all-clause-found : goal.returns-in_err-all-clause-found
returns-in_err-all-clause-found c =
    let p = err_from_is_err_and c.from_residual.result c.from_residual.ensures.1 in
    let gathers = c.in_err-all.ensures.answer in
    rw (p.1, p.2) (plain_fails c.args.bytes.now c.args.plain c.requires.front c.args.at c.args.section (added c.args.operands.now.items c.all.new.operands.items)
    c.in_err-all.field-0.0 gathers)

pub returns-clause-found : goal.returns-clause-found
returns-clause-found c =
    let gathers = c.in_ok-all.ensures.answer in
    plain_gives c.args.bytes.now c.args.plain c.requires.front c.args.at c.args.section (added c.args.operands.now.items c.all.new.operands.items) c.all.new.address gathers

use Rattle.std.proofs.lemmas.Result.{err_from_is_err_and}
use Rattle.dwz_expand_passes.proofs.ListSteps.{operand_stands}
use Rattle.dwz_expand_passes.proofs.CopyLemmas.{not_lost}
use Rattle.dwz_expand_passes.proofs.OperandLemmas.{check_err}
use Rattle.dwz_expand_passes.specs.Known.{scope}
use Rattle.dwz_def_reading.specs.Meanings.{target_of}
use Rattle.dwz_expand_passes.proofs.lists.check_operand.Goals as goal

pub returns-in_err-copy_or-in-Some : goal.returns-in_err-copy_or-in-Some
returns-in_err-copy_or-in-Some c = λ q fits named. (
    let p = q.place (target_of (scope q) c.args.operand.now) in
    let e = err_from_is_err_and c.from_residual.result c.from_residual.ensures.1 in
    rw (e.1, e.2) (check_err q p c.args.operand.now.at c.in_err-copy_or-in-Some.field-0.0
    (c.in_err-copy_or-in-Some.ensures q p fits (operand_stands c.args.x.now q c.args.operand.now c.in-Some.entry fits (c.in-Some.ensures.looks q.raw fits.here)))))

pub returns-in_ok-copy_or-in-Some : goal.returns-in_ok-copy_or-in-Some
returns-in_ok-copy_or-in-Some c = λ q fits named. (
    let p = q.place (target_of (scope q) c.args.operand.now) in
    not_lost q p c.in_ok-copy_or-in-Some.field-0
    (c.in_ok-copy_or-in-Some.ensures q p fits (operand_stands c.args.x.now q c.args.operand.now c.in-Some.entry fits (c.in-Some.ensures.looks q.raw fits.here))))

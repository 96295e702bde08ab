use Rattle.dwz_check_rows.proofs.UnitLemmas.{rows_tell}
use Rattle.dwz_check_rows.proofs.answer.are_same.Goals as goal

pub returns : goal.returns
returns c =
    let one = rows_tell c.args.classes.now c.args.columns.now c.args.old c.args.new c.in_ok-old.old c.in_ok-new.new c.in_ok-old.ensures c.in_ok-new.ensures in
    let is = c.is_same.ensures in
    (λ h. one.0 (is.0 h), λ h. is.1 (one.1 h))

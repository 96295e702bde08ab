use Rattle.std.proofs.Common.{true, sym, ◌∙◌}
use Rattle.dwz_forms.proofs.FormLemmas.{common_kept, common_refused}
use Rattle.dwz_forms.proofs.form_set.common_root_shape.Goals as goal

pub returns-then-is_common_root : goal.returns-then-is_common_root
returns-then-is_common_root c = common_kept true c.args.form c.form_shape.result (sym c.is_common_root.ensures ∙ c.if-is_common_root.true) c.form_shape.ensures

pub returns : goal.returns
returns c = common_refused true c.args.form (sym c.is_common_root.ensures ∙ c.if-is_common_root.false)

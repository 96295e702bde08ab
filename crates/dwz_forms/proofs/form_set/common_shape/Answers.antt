use Rattle.std.proofs.Common.{false, sym, ◌∙◌}
use Rattle.dwz_forms.proofs.FormLemmas.{common_kept, common_refused}
use Rattle.dwz_forms.proofs.form_set.common_shape.Goals as goal

pub returns-then-is_common : goal.returns-then-is_common
returns-then-is_common c = common_kept false c.args.form c.form_shape.result (sym c.is_common.ensures ∙ c.if-is_common.true) c.form_shape.ensures

pub returns : goal.returns
returns c = common_refused false c.args.form (sym c.is_common.ensures ∙ c.if-is_common.false)

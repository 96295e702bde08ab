use Rattle.std.proofs.Common.{sym, ◌∙◌}
use Rattle.dwz_codes.specs.Forms.{form_rows}
use Rattle.dwz_forms.proofs.FormLemmas.{free_kept, free_refused}
use Rattle.dwz_forms.proofs.form_set.own_free_shape.Goals as goal

pub returns-then-is_binding : goal.returns-then-is_binding
returns-then-is_binding c = free_refused form_rows c.args.form (sym c.is_binding.ensures ∙ c.if-is_binding.true)

pub returns : goal.returns
returns c = free_kept form_rows c.args.form c.form_shape.result (sym c.is_binding.ensures ∙ c.if-is_binding.false) c.form_shape.ensures

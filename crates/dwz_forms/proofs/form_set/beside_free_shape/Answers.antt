use Rattle.std.proofs.Common.{sym, ◌∙◌}
use Rattle.dwz_def_reading.specs.Values.{written_rows}
use Rattle.dwz_forms.proofs.FormLemmas.{free_kept, free_refused}
use Rattle.dwz_forms.proofs.form_set.beside_free_shape.Goals as goal

pub returns-then-is_binding : goal.returns-then-is_binding
returns-then-is_binding c = free_refused written_rows c.args.form (sym c.is_binding.ensures ∙ c.if-is_binding.true)

pub returns : goal.returns
returns c = free_kept written_rows c.args.form c.written_shape.result (sym c.is_binding.ensures ∙ c.if-is_binding.false) c.written_shape.ensures

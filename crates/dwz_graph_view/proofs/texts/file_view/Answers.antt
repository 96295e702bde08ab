use Rattle.std.proofs.Common.{ℕ, ℤ, Option, ap, subst, ◌∙◌}
use mir.Syntax.{w128}
use Rattle.std.proofs.lemmas.Int.{to_z-of_z}
use Rattle.dwz_def_reading.specs.Meanings.{path_by, stmt_list}
use Rattle.dwz_def_reading.specs.Meant.{path_or}
use Rattle.dwz_label_entries.specs.Plain.{KnowsLine}
use Rattle.dwz_graph_view.proofs.ValueSteps.{row_means}
use Rattle.dwz_graph_view.proofs.texts.file_view.Goals as goal

pub returns-in-Some : goal.returns-in-Some
returns-in-Some c = λ s a v numbers number knows means. (
    let tables = c.args.setting.now.tables.now in
    let k = subst (λ (w : Option ℕ). KnowsLine s a tables w) c.in-Some.is knows in
    c.path_view.ensures k.2.table a v k.2.there
    (ap (λ (w : ℤ). path_or a (path_by k.2.table w)) (to_z-of_z w128 c.args.number c.ranges.number ∙ number) ∙ row_means s a (stmt_list s) k.0 c.in-Some.table tables v k.1 k.2 means))

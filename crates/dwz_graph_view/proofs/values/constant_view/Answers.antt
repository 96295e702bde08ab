use Rattle.std.proofs.Common.{rules, sym, ◌∙◌}
use mir.Syntax.{w128}
use Rattle.std.proofs.lemmas.Int.{to_z-of_z}
use Rattle.dwz_unit.specs.Rows.{attr_view}
use Rattle.dwz_label_entries.proofs.PlainLemmas.{file_means, numbers}
use Rattle.dwz_graph_view.proofs.values.constant_view.Goals as goal

pub returns-then-names_file : goal.returns-then-names_file
returns-then-names_file c = λ s v class line means. (
    let a = attr_view c.args.attr.now in
    let name = sym c.names_file.ensures ∙ c.if-names_file.true in
    c.file_view.ensures s a v (numbers a name class) (to_z-of_z w128 c.number_of-value.result (search rules) ∙ c.number_of-value.ensures) line (file_means s a v name means))

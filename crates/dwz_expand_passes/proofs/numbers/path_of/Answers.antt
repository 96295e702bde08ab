use Rattle.std.proofs.Common.{◌∙◌}
use mir.Syntax.{w128}
use Rattle.std.proofs.lemmas.Int.{to_z-of_z}
use Rattle.dwz_label_entries.proofs.PathLemmas.{path_at}
use Rattle.dwz_expand_passes.proofs.numbers.path_of.Goals as goal

pub returns : goal.returns
returns c = λ path is. (
    c.in_ok-path.ensures.path ∙ path_at c.args.table.now c.args.number path c.row_of.result is c.in_ok-path.ensures.many
    (λ n e few. c.row_of.ensures n (to_z-of_z w128 c.args.number c.ranges.number ∙ e) few))

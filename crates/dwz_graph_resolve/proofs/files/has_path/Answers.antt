use mir.Syntax.{w128}
use Rattle.std.proofs.lemmas.Int.{to_z-of_z}
use Rattle.dwz_graph_resolve.proofs.FileSteps.{past_all, plain_number}
use Rattle.dwz_graph_resolve.proofs.files.has_path.Goals as goal

pub returns-then-number : goal.returns-then-number
returns-then-number c = past_all c.args.table.now c.args.number c.has_path.result
    (plain_number c.args.number _ (to_z-of_z w128 c.args.number c.ranges.number) c.if-number.true) c.has_path.ensures.many c.has_path.ensures.path

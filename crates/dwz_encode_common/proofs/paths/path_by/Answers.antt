use Rattle.std.proofs.Common.{◌≡◌, List, Option, ℕ, subst, IfOk}
use Rattle.std.specs.Global.{Vec}
use Rattle.std.specs.Option.{option_map}
use mir.Syntax.{w128}
use Rattle.std.proofs.lemmas.Int.{to_z-of_z}
use Rattle.dwz_graph.proofs.FileSteps.{plain_number}
use Rattle.dwz_encode_common.proofs.PathSteps.{past_all}
use Rattle.dwz_encode_common.proofs.paths.path_by.Goals as goal

pub returns-then-number : goal.returns-then-number
returns-then-number c =
    subst (λ (w : Option (List ℕ)). IfOk c.path.result (λ o. option_map (λ (v : Vec ℕ). v.items) o ≡ w))
    (past_all c.args.table.now c.args.number
    (plain_number c.args.number _ (to_z-of_z w128 c.args.number c.ranges.number) c.if-number.true) c.path.ensures.many)
    c.path.ensures.path

use Rattle.std.proofs.Common.{ℕ, List, ◌++◌, map, take, ap, ◌∙◌, arith}
use Rattle.dwz_groups.specs.declared.groups.Edge.{Edge}
use Rattle.dwz_takes.specs.Steps.{edges_from, turned}
use Rattle.dwz_takes.proofs.EdgeFacts.{edges_next}
use Rattle.dwz_takes.proofs.lists.turned_edges.Goals as goal

pub loop-number-preserved : goal.loop-number-preserved
loop-number-preserved c =
    c.in_ok-add_turned.ensures
    ∙ ap (λ (w : List Edge). w ++ map (turned c.loop-number.number) c.get.result.now) c.loop-number.invariant
    ∙ ap (λ (xs : List ℕ). edges_from turned 0 (take c.loop-number.number c.args.lists.now) ++ map (turned c.loop-number.number) xs) c.get.ensures
    ∙ edges_next turned c.loop-number.number c.args.lists.now (omega (arith, c.loop-number-test.true))

use Rattle.std.proofs.Common.{ℕ, List, ◌++◌, map, take, ap, subst, ◌∙◌, arith}
use Rattle.dwz_model.specs.Lists.{In}
use Rattle.dwz_groups.specs.declared.groups.Edge.{Edge}
use Rattle.dwz_takes.specs.Steps.{edges_from, held}
use Rattle.dwz_takes.proofs.EdgeFacts.{edges_next}
use Rattle.dwz_takes.proofs.watch.held_edges.Goals as goal

pub add_held-requires : goal.add_held-requires
add_held-requires c t i = c.requires.below c.loop-unit.unit t (subst (λ (xs : List ℕ). In t xs) c.get.ensures i)

pub loop-unit-preserved : goal.loop-unit-preserved
loop-unit-preserved c =
    c.in_ok-add_held.ensures
    ∙ ap (λ (w : List Edge). w ++ map (held c.args.classes.now c.loop-unit.unit) c.get.result.now) c.loop-unit.invariant
    ∙ ap (λ (xs : List ℕ). edges_from (held c.args.classes.now) 0 (take c.loop-unit.unit c.args.unit_tops.now) ++ map (held c.args.classes.now c.loop-unit.unit) xs) c.get.ensures
    ∙ edges_next (held c.args.classes.now) c.loop-unit.unit c.args.unit_tops.now (omega (arith, c.loop-unit-test.true))

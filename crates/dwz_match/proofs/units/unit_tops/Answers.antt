use Rattle.std.proofs.Common.{◌≡◌, ◌↔◌, ℕ, ◌<◌, All, List, [], length, get_or, sym, ap, subst, ◌∙◌}
use Rattle.dwz_model.specs.Lists.{In}
use Rattle.dwz_groups.specs.declared.groups.Edge.{Edge}
use Rattle.dwz_groups.specs.Groups.{grouped}
use Rattle.dwz_groups.proofs.MarkLemmas.{grouped_length}
use Rattle.dwz_match.specs.Units.{MovesIn}
use Rattle.dwz_match.proofs.UnitFacts.{grouped_moves, keys_low}
use Rattle.dwz_match.proofs.units.unit_tops.Goals as goal

pub group-requires : goal.group-requires
group-requires c = subst (λ (w : List Edge). All (λ (e : Edge). e.key < c.args.count) w) (sym c.as_slice.ensures.value)
    (keys_low c.args.units.now c.args.movable.now c.in_ok-edges.edges.items c.in_ok-edges.ensures c.args.count c.requires.units)

pub returns-clause-len : goal.returns-clause-len
returns-clause-len c = ap (λ (w : List (List ℕ)). length w) c.in_ok-tops.ensures ∙ grouped_length c.args.count c.as_slice.result.now

pub returns-clause-each : goal.returns-clause-each
returns-clause-each c u t =
    let made : c.in_ok-tops.tops ≡ grouped c.args.count c.in_ok-edges.edges.items = c.in_ok-tops.ensures ∙ ap (grouped c.args.count) c.as_slice.ensures.value in
    subst (λ (w : List (List ℕ)). In t (get_or w u []) ↔ MovesIn c.args.units.now c.args.movable.now u t) (sym made)
    (grouped_moves c.args.units.now c.args.movable.now c.in_ok-edges.edges.items c.in_ok-edges.ensures c.args.count c.requires.units u t)

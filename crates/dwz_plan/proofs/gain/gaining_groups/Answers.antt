use Rattle.std.proofs.Common.{◌≡◌, ℕ, ◌<◌, List, length, sym, ap, subst, ◌∙◌, All}
use Rattle.dwz_groups.specs.declared.groups.Edge.{Edge}
use Rattle.dwz_groups.specs.Groups.{grouped}
use Rattle.dwz_plan.specs.Gaining.{edges_from}
use Rattle.dwz_plan.proofs.EdgeLemmas.{edge_keys, edges_inside}
use Rattle.dwz_groups.specs.Spreading.{AreInside}
use Rattle.dwz_groups.proofs.MarkLemmas.{grouped_length}
use Rattle.dwz_plan.proofs.gain.gaining_groups.Goals as goal

pub group-requires : goal.group-requires
group-requires c =
    let here : c.as_slice.result.now ≡ edges_from c.args.groups.now c.args.groups.now c.args.targets.now = c.as_slice.ensures.value ∙ c.in_ok-edges.ensures in
    subst (λ (ps : List Edge). All (λ p. p.key < length c.args.seeds.now) ps) (sym here) (edge_keys (length c.args.seeds.now) c.args.groups.now c.args.targets.now c.requires.groups)

pub spread-requires-clause-len : goal.spread-requires-clause-len
spread-requires-clause-len c = ap (λ (ls : List (List ℕ)). length ls) c.in_ok-into.ensures ∙ grouped_length (length c.args.seeds.now) c.as_slice.result.now

pub spread-requires-clause-inside : goal.spread-requires-clause-inside
spread-requires-clause-inside c =
    let n = length c.args.seeds.now in
    let here : c.as_slice.result.now ≡ edges_from c.args.groups.now c.args.groups.now c.args.targets.now = c.as_slice.ensures.value ∙ c.in_ok-edges.ensures in
    subst (λ (ls : List (List ℕ)). AreInside ls) (sym (c.in_ok-into.ensures ∙ ap (grouped n) here)) (edges_inside n c.args.groups.now c.args.targets.now c.requires.groups)

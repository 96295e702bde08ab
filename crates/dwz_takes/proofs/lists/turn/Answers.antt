use Rattle.std.proofs.Common.{◌≡◌, ℕ, ◌<◌, All, List, ap, sym, subst, ◌∙◌}
use Rattle.dwz_groups.specs.declared.groups.Edge.{Edge}
use Rattle.dwz_groups.specs.Groups.{grouped}
use Rattle.dwz_takes.specs.Steps.{AreTurned, edges_from, turned}
use Rattle.dwz_takes.proofs.EdgeFacts.{turned_by, turned_low}
use Rattle.dwz_takes.proofs.lists.turn.Goals as goal

pub group-requires : goal.group-requires
group-requires c = subst (λ (w : List Edge). All (λ (e : Edge). e.key < c.args.count) w) (sym (c.as_slice.ensures.value ∙ c.in_ok-edges.ensures)) (turned_low c.args.count c.args.lists.now c.requires.below)

pub returns : goal.returns
returns c =
    let made : c.in_ok-groups.groups ≡ grouped c.args.count (edges_from turned 0 c.args.lists.now) = c.in_ok-groups.ensures ∙ ap (grouped c.args.count) (c.as_slice.ensures.value ∙ c.in_ok-edges.ensures) in
    subst (λ (gs : List (List ℕ)). AreTurned c.args.count c.args.lists.now gs) (sym made) (turned_by c.args.count c.args.lists.now c.requires.below)

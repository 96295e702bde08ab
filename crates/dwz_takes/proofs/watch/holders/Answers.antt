use Rattle.std.proofs.Common.{◌≡◌, ℕ, ◌<◌, All, List, length, map, sym, ap, subst, ◌∙◌}
use Rattle.std.specs.Prelude.{nat_eq}
use Rattle.std.specs.List.{dedup}
use Rattle.dwz_groups.specs.declared.groups.Edge.{Edge}
use Rattle.dwz_groups.specs.Groups.{grouped}
use Rattle.dwz_takes.specs.Steps.{AreHolders, edges_from, held}
use Rattle.dwz_takes.specs.Takes.{AreBelow}
use Rattle.dwz_takes.proofs.WatchFacts.{held_low, holders_by}
use Rattle.dwz_takes.proofs.watch.holders.Goals as goal

pub held_edges-requires-clause-below : goal.held_edges-requires-clause-below
held_edges-requires-clause-below c = subst (λ (ks : List ℕ). AreBelow (length ks) c.args.rows.now.unit_tops) (sym c.as_slice-classes.ensures) c.requires.unit_tops

pub group-requires : goal.group-requires
group-requires c =
    let here : c.as_slice.result.now ≡ edges_from (held c.args.rows.now.classes) 0 c.args.rows.now.unit_tops = c.as_slice.ensures.value ∙ c.in_ok-edges.ensures
    ∙ ap (λ (ks : List ℕ). edges_from (held ks) 0 c.args.rows.now.unit_tops) c.as_slice-classes.ensures in
    subst (λ (ks : List ℕ). All (λ (e : Edge). e.key < length ks) c.as_slice.result.now) (sym c.as_slice-classes.ensures)
    (subst (λ (es : List Edge). All (λ (e : Edge). e.key < length c.args.rows.now.classes) es) (sym here) (held_low c.args.rows.now c.requires))

pub returns : goal.returns
returns c =
    let here : c.as_slice.result.now ≡ edges_from (held c.args.rows.now.classes) 0 c.args.rows.now.unit_tops = c.as_slice.ensures.value ∙ c.in_ok-edges.ensures
    ∙ ap (λ (ks : List ℕ). edges_from (held ks) 0 c.args.rows.now.unit_tops) c.as_slice-classes.ensures in
    let made : c.in_ok-groups.groups ≡ grouped (length c.args.rows.now.classes) (edges_from (held c.args.rows.now.classes) 0 c.args.rows.now.unit_tops) =
    c.in_ok-groups.ensures ∙ ap (λ (ks : List ℕ). grouped (length ks) c.as_slice.result.now) c.as_slice-classes.ensures ∙ ap (grouped (length c.args.rows.now.classes)) here in
    subst (λ (gs : List (List ℕ)). AreHolders c.args.rows.now gs) (sym (c.in_ok-distinct.ensures ∙ ap (map (dedup nat_eq)) made)) (holders_by c.args.rows.now c.requires)

use Rattle.std.proofs.Common.{ℕ, ◌+◌, ◌<◌, All, List, length, sym, ap, subst, ◌∙◌}
use Rattle.std.proofs.lemmas.Result.{IfOk-weaker}
use Rattle.dwz_groups.specs.declared.groups.Edge.{Edge}
use Rattle.dwz_groups.specs.Groups.{grouped}
use Rattle.dwz_layout_input.proofs.BesideLists.{edges_low, grouped_are}
use Rattle.dwz_layout_input.proofs.behind.targets_beside.Goals as goal

pub group-requires : goal.group-requires
group-requires c =
    subst (λ (n : ℕ). All (λ (e : Edge). e.key < n + c.args.count) c.as_slice.result.now) (sym c.len.ensures)
    (subst (λ (w : List Edge). All (λ (e : Edge). e.key < length c.args.targets.now + c.args.count) w) (sym (c.as_slice.ensures.value ∙ c.in_ok-edges.ensures)) (edges_low c.args.count c.args.targets.now))

pub returns : goal.returns
returns c =
    IfOk-weaker c.group.result _ _ (λ w e. e ∙ ap (λ (n : ℕ). grouped (n + c.args.count) c.as_slice.result.now) c.len.ensures
    ∙ ap (grouped (length c.args.targets.now + c.args.count)) (c.as_slice.ensures.value ∙ c.in_ok-edges.ensures) ∙ grouped_are c.args.count c.args.targets.now) c.group.ensures

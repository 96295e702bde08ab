use Rattle.std.proofs.Common.{◌≡◌, ◌<◌, ◌∙◌, ◌++◌, All, List, sym, ap, subst, true, false}
use Rattle.std.proofs.lemmas.List.Elements.{All-append}
use Rattle.dwz_plan.specs.Steps.{staying_pairs}
use Rattle.dwz_groups.specs.declared.groups.Edge.{Edge}
use Rattle.dwz_plan.proofs.PlaceLemmas.{staying_keys}
use Rattle.dwz_plan.proofs.units.kept_of_units.Goals as goal

pub group-requires : goal.group-requires
group-requires c =
    let P : Edge → Type 0 = λ p. p.key < c.args.units in
    let pinned : List Edge = staying_pairs true 0 c.args.rows.now c.args.homes.now in
    let others : List Edge = staying_pairs false 0 c.args.rows.now c.args.homes.now in
    let first : c.push_staying.new.pairs.items ≡ pinned = c.in_ok-push_staying.ensures ∙ ap (λ (ps : List Edge). ps ++ pinned) c.in_ok-pairs.ensures.items in
    let both : c.as_slice.result.now ≡ pinned ++ others = c.as_slice.ensures.value ∙ (c.in_ok-push_staying-2.ensures ∙ ap (λ (ps : List Edge). ps ++ others) first) in
    subst (λ (ps : List Edge). All P ps) (sym both) (All-append P pinned others (staying_keys c.args.units true 0 c.args.rows.now c.args.homes.now c.requires.units)
    (staying_keys c.args.units false 0 c.args.rows.now c.args.homes.now c.requires.units))

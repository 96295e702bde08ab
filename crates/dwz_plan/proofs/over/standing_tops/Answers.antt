use Rattle.std.proofs.Common.{◌≡◌, ◌<◌, ◌+◌, ◌∙◌, ◌++◌, ℕ, List, All, IfOk, length, get_or, ap, sym, subst, arith, false}
use Rattle.std.proofs.lemmas.List.{take_all}
use Rattle.dwz_groups.specs.declared.groups.Edge.{Edge}
use Rattle.dwz_groups.specs.declared.tops.TopRow.{TopRow}
use Rattle.dwz_groups.specs.Groups.{grouped}
use Rattle.dwz_plan.specs.OverSteps.{standing_one, standing_pairs}
use Rattle.dwz_plan.proofs.OverLemmas.{held_are, standing-more, standing_keys}
use Rattle.dwz_plan.proofs.over.standing_tops.Goals as goal

none : TopRow
none = record { place = record { file = 0; offset = 0 }; unit = 0; weight = 0; movable = false; pinned = false }

pub loop-top-init : goal.loop-top-init
unfolding standing_pairs
loop-top-init c = c.new-pairs.ensures.items

pub loop-top-preserved : goal.loop-top-preserved
unfolding none
loop-top-preserved c =
    let rows : List TopRow = c.args.rows.now in
    let i = c.loop-top.top in
    let l : i < length rows = omega arith in
    let z : i ≡ 0 + i = omega arith in
    c.in_ok-push_standing.ensures
    ∙ ((λ j. c.loop-top.invariant j ++ standing_one c.args.first (get_or rows i none) (z j)) ∙ sym (standing-more c.args.first 0 rows i none l))

pub group-requires : goal.group-requires
group-requires c =
    let rows : List TopRow = c.args.rows.now in
    let pairs : c.as_slice.result.now ≡ standing_pairs c.args.first 0 rows = c.as_slice.ensures.value
    ∙ (c.loop-top.invariant ∙ ap (standing_pairs c.args.first 0) (take_all c.loop-top.top rows (omega arith))) in
    subst (λ (ps : List Edge). All (λ p. p.key < c.args.count) ps) (sym pairs) (standing_keys c.args.first c.args.count 0 rows c.requires.units)

pub returns : goal.returns
returns c =
    let rows : List TopRow = c.args.rows.now in
    let pairs : c.as_slice.result.now ≡ standing_pairs c.args.first 0 rows = c.as_slice.ensures.value
    ∙ (c.loop-top.invariant ∙ ap (standing_pairs c.args.first 0) (take_all c.loop-top.top rows (omega arith))) in
    subst (λ (ls : List (List ℕ)). IfOk c.group.result (λ held. held ≡ ls)) (ap (grouped c.args.count) pairs ∙ held_are c.args.first c.args.count rows) c.group.ensures

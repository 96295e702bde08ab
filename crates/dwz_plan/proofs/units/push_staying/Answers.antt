use Rattle.std.proofs.Common.{◌≡◌, ◌<◌, ◌+◌, ◌∙◌, ◌++◌, [], ◌∷◌, List, length, get_or, take, ap, sym, arith, false, cond}
use Rattle.std.proofs.lemmas.List.{append-nil, append_assoc, get_or_default}
use Rattle.dwz_groups.specs.declared.tops.TopRow.{TopRow}
use Rattle.dwz_plan.specs.Steps.{staying_one, staying_pairs}
use Rattle.dwz_groups.specs.declared.groups.Edge.{Edge}
use Rattle.dwz_plan.specs.declared.plan.Home.TheVariants.{Common, Stay}
use Rattle.dwz_plan.proofs.PlaceLemmas.{staying-more}
use Rattle.dwz_plan.proofs.units.push_staying.Goals as goal

none : TopRow
none = record { place = record { file = 0; offset = 0 }; unit = 0; weight = 0; movable = false; pinned = false }

pub loop-top-init : goal.loop-top-init
unfolding staying_pairs
loop-top-init c = sym (append-nil c.args.pairs.now.items)

pub loop-top-preserved : goal.loop-top-preserved
unfolding none
loop-top-preserved c =
    let rows : List TopRow = c.args.rows.now in
    let i = c.loop-top.top in
    let l : i < length rows = omega arith in
    let row : TopRow = get_or rows i none in
    let old : List Edge = c.args.pairs.now.items in
    let so_far : List Edge = staying_pairs c.args.pinned 0 (take i rows) (take i c.args.homes.now) in
    let one : List Edge = staying_one c.args.pinned row (get_or c.args.homes.now i Stay) i in
    let z : 0 + i ≡ i = omega arith in
    let more : staying_pairs c.args.pinned 0 (take (i + 1) rows) (take (i + 1) c.args.homes.now) ≡ so_far ++ one =
    staying-more c.args.pinned 0 rows c.args.homes.now i none l c.requires.homes ∙ ap (λ j. so_far ++ staying_one c.args.pinned row (get_or c.args.homes.now i Stay) j) z in
    let pushed : c.push_if.new.pairs.items ≡ c.loop-top.pairs.items ++ one = c.in_ok-push_if.ensures
    ∙ (ap (λ t. c.loop-top.pairs.items ++ cond t (record { key = row.unit; value = i } ∷ []) []) c.is_kept-wanted.ensures ∙ ap (λ h. c.loop-top.pairs.items ++ staying_one c.args.pinned row h i)
    (get_or_default c.args.homes.now i (Common 0) Stay (omega (arith, l, c.requires.homes)))) in
    pushed ∙ (ap (λ (ps : List Edge). ps ++ one) c.loop-top.invariant ∙ (append_assoc old so_far one ∙ ap (λ (ps : List Edge). old ++ ps) (sym more)))

use Rattle.std.proofs.Common.{◌≡◌, ◌<◌, ◌+◌, ◌∙◌, ◌++◌, [], ◌∷◌, List, length, get_or, ap, sym, arith, false}
use Rattle.std.proofs.lemmas.List.{take_all}
use Rattle.dwz_groups.specs.declared.tops.TopRow.{TopRow}
use Rattle.dwz_def_taken.specs.Takes.{is_free}
use Rattle.dwz_plan.specs.Over.{free_row, free_rows}
use Rattle.dwz_plan.proofs.OverLemmas.{free-more}
use Rattle.dwz_plan.proofs.over.free_rows.Goals as goal

none : TopRow
none = record { place = record { file = 0; offset = 0 }; unit = 0; weight = 0; movable = false; pinned = false }

pub loop-top-init : goal.loop-top-init
unfolding free_rows
loop-top-init c = c.in_ok-free.ensures.items

pub loop-top-preserved : goal.loop-top-preserved
unfolding none
loop-top-preserved c =
    let rows : List TopRow = c.args.rows.now in
    let i = c.loop-top.top in
    let l : i < length rows = omega arith in
    let z : i ≡ 0 + i = omega arith in
    let row : c.free_row.result ≡ free_row (is_free c.args.fixed.now (0 + i)) (get_or rows i none) = c.free_row.ensures
    ∙ ap (λ b. free_row b (get_or rows i none)) (c.is_free.ensures ∙ ap (is_free c.args.fixed.now) z) in
    c.in_ok-push.ensures.items ∙ ((λ j. c.loop-top.invariant j ++ row j ∷ []) ∙ sym (free-more c.args.fixed.now 0 rows i none l))

pub returns : goal.returns
returns c = c.loop-top.invariant ∙ ap (free_rows c.args.fixed.now 0) (take_all c.loop-top.top c.args.rows.now (omega arith))

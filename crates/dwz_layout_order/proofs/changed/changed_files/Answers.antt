use Rattle.std.proofs.Common.{◌≡◌, ◌<◌, false, not, List, length, slice_get, get_or, ap, ◌∙◌, arith}
use Rattle.dwz_groups.specs.declared.tops.TopRow.{TopRow}
use Rattle.dwz_layout_order.specs.Marks.{stays_in}
use Rattle.dwz_plan.specs.declared.plan.Home.{Home}
use Rattle.dwz_layout_order.proofs.ChangedLemmas.{flag_more, flags_so}
use Rattle.dwz_layout_order.proofs.changed.changed_files.Goals as goal

none : TopRow
none = record { place = record { file = 0; offset = 0 }; unit = 0; weight = 0; movable = false; pinned = false }

pub loop-top-preserved : goal.loop-top-preserved
unfolding none
loop-top-preserved c =
    let rows = c.args.tops.now.rows in
    let i = c.loop-top.top in
    let lt : i < length rows = (let long = ap (λ (w : List TopRow). length w) c.as_slice-row-items.ensures in omega arith) in
    flag_more rows c.args.plan.now.homes c.args.tops.now.files_of_units c.args.files i none c.goes.result c.file_of.result c.loop-top.flags.items c.mark.new.marks.items lt
    (c.goes.ensures ∙ ap (λ (h : Home). not (stays_in h)) c.home-home.ensures)
    (c.file_of.ensures ∙ (λ j. slice_get (c.as_slice-files_of_units.ensures j) (get_or (c.as_slice-row-items.ensures j) i none).unit))
    c.loop-top.invariant c.mark.ensures

pub returns : goal.returns
returns c = λ docs m many planned. (
    let rows = c.args.tops.now.rows in
    let all : length rows ≡ c.loop-top.top = (let long = ap (λ (w : List TopRow). length w) c.as_slice-row-items.ensures in omega arith) in
    flags_so docs m c.args.tops.now c.args.plan.now planned c.args.files c.loop-top.top c.loop-top.flags.items many all c.loop-top.invariant)

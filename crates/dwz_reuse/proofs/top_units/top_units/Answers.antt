use Rattle.std.proofs.Common.{ℕ, false, List, map, get_or, Some, sym, ap, subst, ◌∙◌, arith}
use Rattle.std.proofs.lemmas.List.{take_all, length-map}
use Rattle.dwz_model.proofs.ListFacts.{got_map}
use Rattle.dwz_def_tops.specs.Spots.{Top, tops_of, units_of}
use Rattle.dwz_groups.specs.declared.tops.TopRow.{TopRow}
use Rattle.dwz_check_labels.proofs.StepLemmas.{found_or}
use Rattle.dwz_plan.specs.Shows.{ShowsRows}
use Rattle.dwz_reuse.proofs.TopFiles.{next_file, row_top, rows_many}
use Rattle.dwz_reuse.proofs.top_units.top_units.Goals as goal

abbrev none : TopRow
none = record { place = record { file = 0; offset = 0 }; unit = 0; weight = 0; movable = false; pinned = false }

pub loop-row-preserved : goal.loop-row-preserved
loop-row-preserved c = λ docs shows. (
    let rows = c.as_slice-row-items.result.now in
    let all = tops_of (units_of docs) in
    let row = get_or rows c.loop-row.row-index none in
    let o = row_top docs (units_of docs) rows all c.loop-row.row-index row
    (subst (λ (w : List TopRow). ShowsRows (units_of docs) w all) (sym c.as_slice-row-items.ensures) shows.rows) (found_or rows c.loop-row.row-index none c.loop-row-test.true) in
    c.in_ok-push.ensures.items
    ∙ next_file (map (λ (t : Top). t.unit) all) c.loop-row.row-index row.unit c.loop-row.units.items (c.loop-row.invariant docs shows)
    (got_map (λ (t : Top). t.unit) all c.loop-row.row-index o.top o.got ∙ ap (λ (n : ℕ). Some n) (sym o.unit)))

pub returns : goal.returns
returns c = λ docs shows. (
    let rows = c.as_slice-row-items.result.now in
    let all = map (λ (t : Top). t.unit) (tops_of (units_of docs)) in
    let many = rows_many docs (units_of docs) rows (tops_of (units_of docs))
    (subst (λ (w : List TopRow). ShowsRows (units_of docs) w (tops_of (units_of docs))) (sym c.as_slice-row-items.ensures) shows.rows) in
    let long = length-map (tops_of (units_of docs)) (λ (t : Top). t.unit) in
    let ends = c.loop-row-test.false in
    c.loop-row.invariant docs shows ∙ take_all c.loop-row.row-index all (omega (arith, many, long, ends)))

use Rattle.std.proofs.Common.{◌≡◌, ◌<◌, ℕ, false, List, [], ◌∷◌, ◌++◌, length, map, take, get_or, Some, sym, ap, subst, ◌∙◌, arith}
use Rattle.std.proofs.lemmas.List.{take_all, length-map}
use Rattle.dwz_model.proofs.ListFacts.{got_index_or}
use Rattle.dwz_def_tops.specs.Spots.{Top, tops_of, units_of}
use Rattle.dwz_groups.specs.declared.tops.TopRow.{TopRow}
use Rattle.dwz_check_labels.proofs.StepLemmas.{found_or}
use Rattle.dwz_plan.specs.Shows.{ShowsRows}
use Rattle.dwz_reuse.proofs.TopFiles.{file_at, next_file, rows_many}
use Rattle.dwz_reuse.proofs.file_kin.files_of.Goals as goal

abbrev none : TopRow
none = record { place = record { file = 0; offset = 0 }; unit = 0; weight = 0; movable = false; pinned = false }

pub bounds-units-row : goal.bounds-units-row
bounds-units-row c =
    let docs = c.requires.0 in
    let shows = c.requires.1 in
    let rows = c.as_slice-row-items.result.now in
    (file_at docs rows c.as_slice-units.result.now c.loop-row.row-index (get_or rows c.loop-row.row-index none)
    (subst (λ (w : List TopRow). ShowsRows (units_of docs) w (tops_of (units_of docs))) (sym c.as_slice-row-items.ensures) shows.rows) (c.as_slice-units.ensures ∙ shows.files_of_units)
    (found_or rows c.loop-row.row-index none c.loop-row-test.true)).low

pub loop-row-preserved : goal.loop-row-preserved
loop-row-preserved c = λ docs shows. (
    let rows = c.as_slice-row-items.result.now in
    let at = file_at docs rows c.as_slice-units.result.now c.loop-row.row-index (get_or rows c.loop-row.row-index none)
    (subst (λ (w : List TopRow). ShowsRows (units_of docs) w (tops_of (units_of docs))) (sym c.as_slice-row-items.ensures) shows.rows) (c.as_slice-units.ensures ∙ shows.files_of_units)
    (found_or rows c.loop-row.row-index none c.loop-row-test.true) in
    c.in_ok-push.ensures.items ∙ next_file (map (λ (t : Top). t.file) (tops_of (units_of docs))) c.loop-row.row-index _ c.loop-row.files.items (c.loop-row.invariant docs shows) at.is)

pub returns : goal.returns
returns c = λ docs shows. (
    let rows = c.as_slice-row-items.result.now in
    let all = map (λ (t : Top). t.file) (tops_of (units_of docs)) in
    let many = rows_many docs (units_of docs) rows (tops_of (units_of docs))
    (subst (λ (w : List TopRow). ShowsRows (units_of docs) w (tops_of (units_of docs))) (sym c.as_slice-row-items.ensures) shows.rows) in
    let long = length-map (tops_of (units_of docs)) (λ (t : Top). t.file) in
    let ends = c.loop-row-test.false in
    c.loop-row.invariant docs shows ∙ take_all c.loop-row.row-index all (omega (arith, many, long, ends)))

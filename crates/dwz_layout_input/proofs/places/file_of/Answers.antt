use Rattle.std.proofs.Common.{◌≡◌, ℕ, List, slice_get, ap, ◌∙◌}
use Rattle.dwz_def_reading.proofs.ListFacts.{same_got}
use Rattle.dwz_groups.specs.declared.tops.TopRow.{TopRow}
use Rattle.dwz_layout.proofs.KnownLemmas.{file_found}
use Rattle.dwz_layout_input.proofs.PlaceLemmas.{get_none, row_there}
use Rattle.dwz_layout_input.proofs.places.file_of.Goals as goal

pub returns-in_err-row : goal.returns-in_err-row
returns-in_err-row c = λ units t shows got. (
    let r = row_there units c.args.tops.now c.args.top t shows got in
    absurd (get_none c.as_slice.result.now c.args.tops.now.rows c.args.top r.0 c.as_slice.ensures c.in_err-row.ensures.lookup.0 r.1))

pub returns : goal.returns
returns c = λ units t shows got. (
    let tops = c.args.tops.now in
    let row = c.in_ok-row.row.now in
    let r = row_there units tops c.args.top t shows got in
    let found = file_found c.as_slice.result.now tops.rows c.args.top row c.as_slice.ensures c.in_ok-row.ensures.lookup.0 c.in_ok-row.ensures.lookup.1 in
    let same : row ≡ r.0 = same_got tops.rows c.args.top row r.0 found r.1 in
    c.file_of_unit.ensures ∙ ap (λ (w : List ℕ). slice_get w row.unit) c.as_slice-2.ensures ∙ ap (λ (w : TopRow). slice_get tops.files_of_units w.unit) same ∙ r.2)

use Rattle.dwz_unit.proofs.RowsFound.{row_there}
use Rattle.dwz_unit.specs.Rows.{units_of}
use Rattle.dwz_layout_input.proofs.PlaceLemmas.{says_line, unit_is, within}
use Rattle.dwz_layout_input.proofs.tops_beside.line_of_top.Goals as goal

pub returns-in_err-place : goal.returns-in_err-place
returns-in_err-place c = λ contents t knows got. absurd (c.in_err-place.ensures contents c.args.files.now t knows got)

pub returns : goal.returns
returns c = λ contents t knows got. (
    let files = c.args.files.now in
    let place = c.in_ok-place.place in
    let p = c.in_ok-place.ensures contents files t knows got in
    let row = row_there (units_of p.f.units) place.entry (within contents files t place p) in
    says_line contents files t place p row.0 row.1 c.line_at.result (c.line_at.ensures p.f row.0 _ p.got row.1 (unit_is contents files t place p row.0 row.1)))

use Rattle.std.proofs.Common.{◌≡◌, ◌&&◌, Bool, Some, true, false, refl, sym, ◌∙◌}
use Rattle.dwz_unit.proofs.RowsFound.{row_there}
use Rattle.dwz_unit.specs.Rows.{entry_shown, units_of}
use Rattle.dwz_layout_input.proofs.PlaceLemmas.{ends, says_path, shown_here, within}
use Rattle.dwz_layout_input.proofs.tops_beside.top_numbers_file.Goals as goal

and_some : (b : Bool) → (b && true) ≡ b
and_some true = refl
and_some false = refl

pub returns-in-None : goal.returns-in-None
returns-in-None c = λ contents t line knows got says. absurd (c.in-None.ensures contents c.args.files.now t knows got)

pub returns-in-Some : goal.returns-in-Some
returns-in-Some c = λ contents t line knows got says. (
    let files = c.args.files.now in
    let place = c.in-Some.place in
    let p = c.in-Some.ensures contents files t knows got in
    let row = row_there (units_of p.f.units) place.entry (within contents files t place p) in
    let numbers = c.numbers_file_at.ensures p.f (entry_shown row.0) p.got (shown_here contents files t place p row.0 row.1) (ends contents files t place p row.0 row.1) in
    says_path contents files t place p row.0 row.1 (Some line) says ∙ and_some _ ∙ sym numbers)

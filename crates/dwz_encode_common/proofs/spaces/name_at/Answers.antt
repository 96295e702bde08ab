use Rattle.std.proofs.Common.{◌∙◌, refl, sym, arith}
use Rattle.dwz_unit.specs.Rows.{units_of}
use Rattle.dwz_unit.proofs.RowsFound.{row_there}
use Rattle.dwz_layout.proofs.KnownLemmas.{file_found}
use Rattle.dwz_encode_common.proofs.NameSteps.{name_there, no_row}
use Rattle.dwz_encode_common.proofs.spaces.name_at.Goals as goal

pub returns-then-row-entries : goal.returns-then-row-entries
returns-then-row-entries c =
    let files = c.args.files.now in
    let x = c.in-Some.file.now in
    let found = file_found files files c.args.row.file x refl c.in-Some.ensures.lookup.0 c.in-Some.ensures.lookup.1 in
    sym (no_row files c.args.row x found (omega (arith, c.entries.ensures, c.if-row-entries.true)))

pub returns : goal.returns
returns c =
    let files = c.args.files.now in
    let x = c.in-Some.file.now in
    let found = file_found files files c.args.row.file x refl c.in-Some.ensures.lookup.0 c.in-Some.ensures.lookup.1 in
    let r = row_there (units_of x.units) c.args.row.entry (omega (arith, c.entries.ensures, c.if-row-entries.false)) in
    c.name_of.ensures r.0 r.1 ∙ sym (name_there files c.args.row x r.0 found r.1)

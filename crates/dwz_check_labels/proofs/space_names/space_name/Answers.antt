use Rattle.std.proofs.Common.{arith}
use Rattle.dwz_def_reading.specs.Meanings.{scope_of}
use Rattle.dwz_def_reading.proofs.ListFacts.{got_below}
use Rattle.dwz_unit.proofs.RowsFound.{rows-length}
use Rattle.dwz_unit.specs.Rows.{rows_of}
use Rattle.dwz_check_labels.specs.Files.{raw_in}
use Rattle.dwz_check_labels.proofs.EntryLemmas.{knows_texts, row_of, shown_row, unit_shown}
use Rattle.dwz_check_labels.proofs.space_names.space_name.Goals as goal

pub here_at-here-requires : goal.here_at-here-requires
here_at-here-requires c =
    let r = shown_row (raw_in c.args.file.now) c.args.entry c.entry-unit.result c.entry-unit.ensures.entry in
    let low = r.0 in
    let many = c.requires.many in
    omega arith

pub returns-then-entry-entries : goal.returns-then-entry-entries
returns-then-entry-entries c = λ around said d text says found is. (
    let raw = raw_in c.args.file.now in
    let r = row_of around raw said c.args.entry d says.means found in
    absurd (omega (arith, got_below (rows_of raw) c.args.entry r.row r.found, rows-length raw, c.entries.ensures, c.if-entry-entries.true)))

pub returns : goal.returns
returns c = λ around said d text says found is. (
    let raw = raw_in c.args.file.now in
    let r = row_of around raw said c.args.entry d says.means found in
    let unit = unit_shown raw c.args.entry c.entry-unit.result r.row c.entry-unit.ensures.entry r.found in
    c.name_by.ensures (scope_of around r.u) r.row d.0 text (knows_texts c.args.file.now around said c.entry-unit.result.unit c.here_at-here.result.now r.row r.u says unit r.is_unit
    (c.requires.each c.entry-unit.result.unit c.here_at-here.result.now c.here_at-here.ensures)) r.found r.means is)

use Rattle.std.proofs.Common.{arith}
use Rattle.std.proofs.lemmas.List.{length-take-le}
use Rattle.dwz_unit.specs.Rows.{rows_of, units_of}
use Rattle.dwz_unit.proofs.RowsFound.{row_there, rows-length}
use Rattle.dwz_encode_common.specs.Placed.{said_in}
use Rattle.dwz_encode_common.specs.TextsIn.{is_made, texts_in}
use Rattle.dwz_encode_common.proofs.PlacedSteps.{rows_all, rows_placed}
use Rattle.dwz_encode_common.proofs.placed.texts_of_file.Goals as goal

pub loop-entry-preserved : goal.loop-entry-preserved
loop-entry-preserved c =
    let to = c.args.to.now in
    let x = c.args.file.now in
    let raw = units_of x.units in
    let i = c.loop-entry.entry in
    let many = rows-length raw in
    let r = row_there raw i (omega (arith, c.loop-entry-test.true, c.entries-entry-end.ensures)) in
    rows_placed (is_made to.texts.now) to.shares (texts_in to.texts.now) to.known.now to.file (said_in x) (rows_of raw) i r.0 c.loop-entry.places.items
    c.put_row.new.places.items r.1
    (length-take-le i (rows_of raw) (omega (arith, c.loop-entry-test.true, c.entries-entry-end.ensures))) c.loop-entry.invariant
    (c.in_ok-put_row.ensures r.0 r.1)

pub returns : goal.returns
returns c =
    let to = c.args.to.now in
    let x = c.args.file.now in
    let raw = units_of x.units in
    let many = rows-length raw in
    rows_all (is_made to.texts.now) to.shares (texts_in to.texts.now) to.known.now to.file (said_in x) (rows_of raw) c.loop-entry.entry c.loop-entry.places.items
    (omega (arith, c.loop-entry-test.false, c.entries-entry-end.ensures)) c.loop-entry.invariant

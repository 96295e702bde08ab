use Rattle.std.proofs.Common.{◌++◌, ◌∙◌, List, ℕ, ap, sym, arith}
use Rattle.dwz_unit.specs.Rows.{rows_of, units_of}
use Rattle.dwz_unit.proofs.RowsFound.{row_there, rows-length}
use Rattle.dwz_encode_texts.proofs.TextSteps.{flat_all, flat_more}
use Rattle.dwz_encode_common.specs.Numbers.{row_numbers}
use Rattle.dwz_encode_common.proofs.numbers.numbers_of_file.Goals as goal

pub loop-i-preserved : goal.loop-i-preserved
loop-i-preserved c =
    let x = c.args.file.now in
    let raw = units_of x.units in
    let r = row_there raw c.loop-i.i (omega (arith, c.loop-i-test.true, c.entries-i-end.ensures)) in
    c.in_ok-put_row.ensures r.0 r.1
    ∙ ap (λ (w : List ℕ). w ++ row_numbers c.args.paths.now x r.0) c.loop-i.invariant
    ∙ sym (flat_more (row_numbers c.args.paths.now x) (rows_of raw) c.loop-i.i r.0 r.1)

pub returns : goal.returns
returns c =
    let x = c.args.file.now in
    let raw = units_of x.units in
    let many = rows-length raw in
    flat_all (row_numbers c.args.paths.now x) (rows_of raw) c.loop-i.i c.loop-i.numbers.items
    (omega (arith, c.loop-i-test.false, c.entries-i-end.ensures)) c.loop-i.invariant

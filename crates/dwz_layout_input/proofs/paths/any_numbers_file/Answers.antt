use Rattle.std.proofs.Common.{refl, arith}
use Rattle.std.specs.Prelude.{slice_range}
use Rattle.std.specs.List.{list_any}
use Rattle.dwz_unit.proofs.RowsFound.{row_there}
use Rattle.dwz_unit.specs.Rows.{rows_of, units_of}
use Rattle.dwz_layout_input.specs.Roots.{numbers_file}
use Rattle.dwz_layout_input.proofs.WalkLemmas.{any_end, any_here, any_next}
use Rattle.dwz_layout_input.proofs.paths.any_numbers_file.Goals as goal

pub loop-i-init : goal.loop-i-init
loop-i-init c = refl

pub loop-i-preserved : goal.loop-i-preserved
loop-i-preserved c =
    let raw = units_of c.args.units.now in
    let all = list_any numbers_file (slice_range (rows_of raw) c.args.first c.args.end) in
    let r = row_there raw c.loop-i.i (omega arith) in
    any_next (rows_of raw) c.loop-i.i c.args.end r.0 c.entry_numbers_file.result all c.loop-i-test.true r.1 (c.entry_numbers_file.ensures r.0 r.1) c.if-entry_numbers_file.false c.loop-i.invariant

pub returns-then-entry_numbers_file : goal.returns-then-entry_numbers_file
returns-then-entry_numbers_file c =
    let raw = units_of c.args.units.now in
    let all = list_any numbers_file (slice_range (rows_of raw) c.args.first c.args.end) in
    let r = row_there raw c.loop-i.i (omega arith) in
    any_here (rows_of raw) c.loop-i.i c.args.end r.0 c.entry_numbers_file.result all c.loop-i-test.true r.1 (c.entry_numbers_file.ensures r.0 r.1) c.if-entry_numbers_file.true c.loop-i.invariant

pub returns : goal.returns
returns c =
    let raw = units_of c.args.units.now in
    any_end (rows_of raw) c.loop-i.i c.args.end (list_any numbers_file (slice_range (rows_of raw) c.args.first c.args.end)) (omega (arith, c.loop-i-test.false)) c.loop-i.invariant

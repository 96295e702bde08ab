use Rattle.std.proofs.Common.{subst, sym}
use Rattle.dwz_def_reading.proofs.ListFacts.{got_below, got_index_or}
use Rattle.dwz_label_files.specs.declared.unit.UnitRow.{UnitRow}
use Rattle.dwz_label_files.specs.Unit.{IsUnitRow}
use Rattle.dwz_label_files.proofs.TopLemmas.{found, kept_row, with_row}
use Rattle.dwz_unit.specs.Rows.{units_of}
use Rattle.dwz_label_files.proofs.numbered.put_numbered.Goals as goal

pub bounds-rows-entry : goal.bounds-rows-entry
bounds-rows-entry c =
    let r = c.args.run.now in
    let e = c.entry_of-entry.result in
    let h = found r c.file_of-file.result c.args.n e c.requires.ready.run c.file_of-file.ensures c.entry_of-entry.ensures in
    let kept = kept_row r c.args.rows.now c.file_of-file.result c.args.n e c.requires.ready h in
    got_below c.args.rows.now e.unit kept.0 kept.1

pub put_top_of-requires-clause-there : goal.put_top_of-requires-clause-there
put_top_of-requires-clause-there c =
    let r = c.args.run.now in
    let rows = c.args.rows.now in
    let e = c.entry_of-entry.result in
    let h = found r c.file_of-file.result c.args.n e c.requires.ready.run c.file_of-file.ensures c.entry_of-entry.ensures in
    let kept = kept_row r rows c.file_of-file.result c.args.n e c.requires.ready h in
    with_row r c.file_of-file.result c.args.n e _ h (subst (λ (w : UnitRow). IsUnitRow (units_of h.f.units) h.m w) (sym (got_index_or rows e.unit kept.0 _ kept.1)) kept.2)

use Rattle.std.proofs.Common.{◌≡◌, ◌+◌, ◌-◌, ap, arith, subst, sym, ◌∙◌, slice_get}
use Rattle.dwz_def_reading.proofs.ListFacts.{got_below, got_index_or}
use Rattle.dwz_def_tops.specs.Spots.{tops_of, units_of as file_units}
use Rattle.dwz_graph.specs.Files.{docs_of}
use Rattle.dwz_label_files.specs.declared.unit.UnitRow.{UnitRow}
use Rattle.dwz_label_files.specs.Unit.{IsUnitRow}
use Rattle.dwz_label_files.proofs.MarkedLemmas.{place_kept, still_names}
use Rattle.dwz_label_words.proofs.AttrLemmas.{stays_both}
use Rattle.dwz_label_words.proofs.ValueLemmas.{weaker}
use Rattle.dwz_label_files.proofs.TopLemmas.{found, kept_row, with_row}
use Rattle.dwz_unit.specs.Rows.{units_of}
use Rattle.dwz_label_files.proofs.stretch.put_nth.Goals as goal

pub bounds-rows-entry : goal.bounds-rows-entry
bounds-rows-entry c =
    let r = c.args.run.now in
    let e = c.entry_of-entry.result in
    let h = found r c.args.file c.args.n e c.requires.ready.run c.requires.there c.entry_of-entry.ensures in
    let kept = kept_row r c.args.rows.now c.args.file c.args.n e c.requires.ready h in
    got_below c.args.rows.now e.unit kept.0 kept.1

pub place_of-requires-clause-there : goal.place_of-requires-clause-there
place_of-requires-clause-there c =
    let r = c.args.run.now in
    let rows = c.args.rows.now in
    let e = c.entry_of-entry.result in
    let h = found r c.args.file c.args.n e c.requires.ready.run c.requires.there c.entry_of-entry.ensures in
    let kept = kept_row r rows c.args.file c.args.n e c.requires.ready h in
    with_row r c.args.file c.args.n e _ h (subst (λ (w : UnitRow). IsUnitRow (units_of h.f.units) h.m w) (sym (got_index_or rows e.unit kept.0 _ kept.1)) kept.2)

pub put_marks_of-requires-clause-there : goal.put_marks_of-requires-clause-there
put_marks_of-requires-clause-there c =
    let r = c.args.run.now in
    let rows = c.args.rows.now in
    let e = c.entry_of-entry.result in
    let h = found r c.args.file c.args.n e c.requires.ready.run c.requires.there c.entry_of-entry.ensures in
    let kept = kept_row r rows c.args.file c.args.n e c.requires.ready h in
    with_row r c.args.file c.args.n e _ h (subst (λ (w : UnitRow). IsUnitRow (units_of h.f.units) h.m w) (sym (got_index_or rows e.unit kept.0 _ kept.1)) kept.2)

pub put_marks_of-requires-clause-names : goal.put_marks_of-requires-clause-names
put_marks_of-requires-clause-names c = still_names c.args.run.now.files.now c.args.file c.args.names.now c.place_of.new.names c.in_ok-here.ensures.stays c.requires.names

pub returns-clause-told : goal.returns-clause-told
returns-clause-told c = λ t got free flag. (
    let r = c.args.run.now in
    let h = found r c.args.file c.args.n c.entry_of-entry.result c.requires.ready.run c.requires.there c.entry_of-entry.ensures in
    let from = h.from in
    let at : h.x.starts.top + (c.args.n - h.x.starts.top) ≡ c.args.n = omega arith in
    c.put_marks_of.ensures.told h.x (c.args.n - h.x.starts.top) t h.index h.entry (ap (slice_get (tops_of (file_units (docs_of r.graph.now.given)))) at ∙ got) free)

pub returns-clause-stays : goal.returns-clause-stays
returns-clause-stays c = weaker c.put_marks_of.result _ _
    (λ done stays. stays_both c.args.names.now c.place_of.new.names c.put_marks_of.new.names c.in_ok-here.ensures.stays stays) c.put_marks_of.ensures.stays

pub returns-clause-place : goal.returns-clause-place
returns-clause-place c = weaker c.put_marks_of.result _ _
    (λ done stays. place_kept c.args.run.now c.args.file c.place_of.new.names.names c.put_marks_of.new.names.names c.in_ok-here.here stays.kept c.in_ok-here.ensures.place) c.put_marks_of.ensures.stays

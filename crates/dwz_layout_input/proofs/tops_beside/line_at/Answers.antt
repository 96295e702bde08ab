use Rattle.std.proofs.Common.{◌≡◌, Some, slice_get, refl, sym, ap, ◌∙◌, arith}
use Rattle.dwz_def_reading.specs.Units.{entries_in}
use Rattle.dwz_def_reading.proofs.ListFacts.{got_below, same_got}
use Rattle.dwz_graph.specs.declared.file.File.{File}
use Rattle.dwz_layout.proofs.KnownLemmas.{file_found}
use Rattle.dwz_unit.proofs.RowsFound.{row_is, rows-length}
use Rattle.dwz_unit.specs.declared.rows.RawEntry.{RawEntry}
use Rattle.dwz_unit.specs.Rows.{rows_of, units_of}
use Rattle.dwz_layout_input.proofs.tops_beside.line_at.Goals as goal

pub returns-then-place-entries : goal.returns-then-place-entries
returns-then-place-entries c = λ f row u got row_got unit_got. (
    let files = c.args.files.now in
    let here = file_found files files c.args.place.file c.in_ok-file.file.now refl c.in_ok-file.ensures.lookup.0 c.in_ok-file.ensures.lookup.1 in
    let same : c.in_ok-file.file.now ≡ f = same_got files c.args.place.file c.in_ok-file.file.now f here got in
    let count = c.entries.ensures ∙ ap (λ (w : File). entries_in (units_of w.units)) same in
    let low = got_below (rows_of (units_of f.units)) c.args.place.entry row row_got in
    let long = rows-length (units_of f.units) in
    let high = c.if-place-entries.true in
    absurd (omega arith))

pub returns : goal.returns
returns c = λ f row u got row_got unit_got. (
    let files = c.args.files.now in
    let here = file_found files files c.args.place.file c.in_ok-file.file.now refl c.in_ok-file.ensures.lookup.0 c.in_ok-file.ensures.lookup.1 in
    let same : c.in_ok-file.file.now ≡ f = same_got files c.args.place.file c.in_ok-file.file.now f here got in
    let raw = units_of c.in_ok-file.file.now.units in
    let row_here : slice_get (rows_of raw) c.args.place.entry ≡ Some row = ap (λ (w : File). slice_get (rows_of (units_of w.units)) c.args.place.entry) same ∙ row_got in
    let unit : c.entry.result.unit ≡ row.unit = ap (λ (w : RawEntry). w.unit) (sym (row_is raw c.args.place.entry c.entry.result row c.entry.ensures.entry row_here)) in
    c.line_of_unit.ensures u (ap (slice_get raw) unit ∙ ap (λ (w : File). slice_get (units_of w.units) row.unit) same ∙ unit_got))

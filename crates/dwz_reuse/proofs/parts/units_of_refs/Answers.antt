use Rattle.std.proofs.Common.{◌≡◌, ◌<◌, ℕ, Some, get_or, ap, sym, ◌∙◌}
use Rattle.dwz_def_reading.specs.Units.{entries_in}
use Rattle.dwz_unit.proofs.RowsFound.{row_there}
use Rattle.dwz_move.proofs.IntoLemmas.{entry_at, refs_next}
use Rattle.dwz_graph.proofs.RowSteps.{shown_row}
use Rattle.dwz_unit.specs.declared.rows.RawEntry.{RawEntry}
use Rattle.dwz_unit.specs.Rows.{units_of}
use Rattle.dwz_reuse.proofs.parts.units_of_refs.Goals as goal

pub loop-entry-preserved : goal.loop-entry-preserved
loop-entry-preserved c = λ name names. (
    let raw = units_of c.args.units.now in
    let refs = c.args.refs.now in
    let k = c.loop-entry.entry-index in
    let low : get_or refs k 0 < entries_in raw = entry_at raw refs k c.requires c.loop-entry-test.true in
    let row = row_there raw (get_or refs k 0) low in
    let unit : row.0.unit ≡ c.entry.result.unit = ap (λ (x : RawEntry). x.unit) (shown_row raw (get_or refs k 0) row.0 c.entry.result row.1 c.entry.ensures.entry) in
    refs_next name raw refs k c.loop-entry.into.items c.push.new.self.items (Some c.entry.result.unit) c.loop-entry-test.true (c.loop-entry.invariant name names)
    (ap (λ (n : ℕ). Some n) (sym unit) ∙ sym (names (get_or refs k 0) row.0 row.1)) c.in_ok-push.ensures.items)

use Rattle.std.proofs.Common.{◌≡◌, ℕ, ◌-◌, ◌∙◌, ◌++◌, length, map, replicate, sym, ap, arith, vec_len}
use Rattle.std.proofs.lemmas.List.{length-map}
use Rattle.dwz_unit.proofs.RowsFound.{row_is, row_there, rows-length}
use Rattle.dwz_unit.specs.declared.rows.RawEntry.{RawEntry as EntryOfCode}
use Rattle.dwz_unit.specs.Rows.{EntryRow, rows_of, units_of}
use Rattle.dwz_unit.proofs.FlatLemmas.{all_added, none_added, one_added}
use Rattle.dwz_layout.proofs.LaidLemmas.{start_places}
use Rattle.dwz_layout.proofs.standing.standing_places.Goals as goal

pub loop-n-init : goal.loop-n-init
loop-n-init c =
    let raw = units_of c.args.common.now in
    let before = c.args.entries - c.entries-count.result in
    start_places c.in_ok-places.places.items c.resize.new.self.items c.saturating_sub.result (vec_len c.in_ok-places.places) before c.in_ok-places.ensures.items c.in_ok-places.ensures.len
    c.saturating_sub.ensures c.in_ok-resize.ensures.items
    ∙ none_added (λ (r : EntryRow). r.entry.at) (rows_of raw) (replicate before 0)

pub loop-n-preserved : goal.loop-n-preserved
loop-n-preserved c =
    let raw = units_of c.args.common.now in
    let r = row_there raw c.loop-n.n (omega (arith, c.loop-n-test.true, c.entries-count.ensures)) in
    let at = ap (λ (e : EntryOfCode). e.at) (row_is raw c.loop-n.n c.entry-entry.result r.0 c.entry-entry.ensures.entry r.1) in
    one_added (λ (r : EntryRow). r.entry.at) (rows_of raw) c.loop-n.n r.0 c.entry-entry.result.at (replicate (c.args.entries - c.entries-count.result) 0) c.loop-n.places.items c.push.new.self.items r.1 (sym at)
    c.in_ok-push.ensures.items c.loop-n.invariant

pub returns : goal.returns
returns c =
    let raw = units_of c.args.common.now in
    let f : EntryRow → ℕ = λ r. r.entry.at in
    let many = rows-length raw in
    let same : c.entries-count.result ≡ length (map f (rows_of raw)) = omega (arith, many, c.entries-count.ensures, length-map (rows_of raw) f) in
    all_added f (rows_of raw) c.loop-n.n (replicate (c.args.entries - c.entries-count.result) 0) c.loop-n.places.items (omega (arith, c.loop-n-test.false, c.entries-count.ensures, many)) c.loop-n.invariant
    ∙ ap (λ (k : ℕ). replicate (c.args.entries - k) 0 ++ map f (rows_of raw)) same

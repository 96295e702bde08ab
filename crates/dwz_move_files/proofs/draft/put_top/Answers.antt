use Rattle.std.proofs.Common.{◌≡◌, ℕ, ◌+◌, ◌≤◌, List, ◌++◌, length, Some, map, slice_get, ap, subst}
use Rattle.std.specs.Prelude.{slice_index, slice_range}
use Rattle.dwz_def_reading.proofs.ListFacts.{same_got}
use Rattle.dwz_graph.specs.Files.{docs_of}
use Rattle.dwz_move.specs.Bound.{somes, target_of}
use Rattle.dwz_unit.specs.declared.rows.RawEntry.{RawEntry}
use Rattle.dwz_unit.specs.Rows.{shown_entries, units_of as raw_units}
use Rattle.dwz_move_files.specs.declared.draft.Draft.{Draft}
use Rattle.dwz_move_files.specs.Drafts.{IsDraft}
use Rattle.dwz_move_files.proofs.DraftSteps.{either, put_bound, put_free, rise, within}
use Rattle.dwz_move_files.proofs.draft.put_top.Goals as goal

pub returns : goal.returns
returns c = λ contents bytes x is k t top_is at into own named there from count sum d. (
    let f = c.args.file.now in
    let raw = raw_units f.units in
    let number = c.args.number in
    let top = c.args.top in
    let r = c.entry-end.result in
    let shown = c.entry-end.ensures.entry in
    let ends : (q : RawEntry) → slice_get (shown_entries raw) top.entry ≡ Some q → q.end ≡ r.end = (λ q e. ap (λ (w : RawEntry). w.end) (same_got (shown_entries raw) top.entry q r e shown)) in
    let binds_is = c.in_ok-bound.ensures contents number bytes x is k t top_is at ends into own named in
    let row_is = c.row_of.ensures contents bytes x is k t top_is at ends named in
    let items = c.args.into.now in
    let part_is = subst (λ (w : List ℕ). slice_index w top.entry ≤ slice_index w r.end → slice_index w r.end ≤ length items
    → c.part.result.now ≡ slice_range items (slice_index w top.entry) (slice_index w r.end)) c.as_slice-starts.ensures.value c.part.ensures
    (rise contents number bytes f x is k top t top_is items into r shown) (within contents number bytes f x is k top t top_is items into r shown) in
    let old = c.args.draft.now in
    let new : Draft = record { rows = c.push.new.self; binds = c.push-2.new.self; pairs = c.put_targets.new.pairs } in
    either c.put_targets.result c.in_ok-bound.bound (new.pairs.items ≡ old.pairs.items) (new.pairs.items ≡ old.pairs.items ++ map (target_of c.args.n) (somes c.part.result.now))
    (IsDraft (docs_of contents) from (count + 1) new)
    c.put_targets.ensures.bound c.put_targets.ensures.free
    (λ bound pairs. put_bound contents number bytes f x is k top t top_is from count c.args.n sum at c.row_of.result row_is c.in_ok-bound.bound bound binds_is old new d c.in_ok-push.ensures.items
    c.in_ok-push-2.ensures.items pairs)
    (λ unbound pairs. put_free contents number bytes f x is k top t top_is items into r shown from count c.args.n sum at c.row_of.result row_is c.in_ok-bound.bound unbound binds_is old new d
    c.in_ok-push.ensures.items c.in_ok-push-2.ensures.items c.part.result.now part_is pairs))

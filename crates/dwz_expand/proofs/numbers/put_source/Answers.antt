use Rattle.std.proofs.Common.{◌≡◌, ℕ, ◌++◌, ◌<◌, ◌≤◌, List, None, Some, OnOk, slice_get, slice_index_or, sym, ap, subst, ◌∙◌, arith}
use Rattle.std.proofs.lemmas.List.{append-nil}
use Rattle.dwz_def_reading.specs.declared.exprs.Operand.{Operand}
use Rattle.dwz_def_reading.specs.Units.{entries_in}
use Rattle.dwz_check_labels.proofs.EntryLemmas.{shown_row}
use Rattle.dwz_check_labels.specs.Files.{IsHereOf}
use Rattle.dwz_graph.specs.Here.{Here}
use Rattle.dwz_unit.proofs.RowsFound.{entry_row}
use Rattle.dwz_unit.specs.declared.rows.RawEntry.{RawEntry as EntryOfCode}
use Rattle.dwz_expand_layout.specs.Laid.{layout_view}
use Rattle.dwz_expand_passes.proofs.KindLemmas.{here_there}
use Rattle.dwz_expand_passes.specs.Files.{raw_in}
use Rattle.dwz_expand.proofs.AllTold.{no_row, row_tells}
use Rattle.dwz_expand.proofs.CanRead.{can_read}
use Rattle.dwz_expand.proofs.numbers.put_source.Goals as goal

abbrev none : Here
none = record { number = 0; at = 0; first = 0; end = 0; offsets = None; lists = None; line = None }

pub returns-then-i-entries : goal.returns-then-i-entries
returns-then-i-entries c = λ f h planned.
    let x = c.args.x.now.file.now in
    let le : entries_in (raw_in x.own) ≤ c.args.i = omega (arith, c.if-i-entries.true, c.entries.ensures) in
    sym (ap (λ (w : List Operand). c.args.told.now.items ++ w) (no_row f x c.args.x.now.unit c.args.i le) ∙ append-nil c.args.told.now.items)

pub bounds-heres-entry : goal.bounds-heres-entry
bounds-heres-entry c =
    let lt = (shown_row (raw_in c.args.x.now.file.now.own) c.args.i c.entry.result c.entry.ensures.entry).0 in
    let many = c.requires.ready.own.heres.many in
    omega (arith, lt, many)

pub put_values-requires-clause-can : goal.put_values-requires-clause-can
put_values-requires-clause-can c =
    let x = c.args.x.now.file.now in
    let lt = (shown_row (raw_in x.own) c.args.i c.entry.result c.entry.ensures.entry).0 in
    let here : IsHereOf (raw_in x.own) c.entry.result.unit (slice_index_or x.own.heres.now c.entry.result.unit none) =
    here_there (raw_in x.own) x.own.heres.now c.entry.result.unit none c.requires.ready.own.heres lt in
    record {
      ready = c.requires.ready;
      many = c.requires.many;
      copies = c.requires.copies;
      at = c.requires.at;
      inside = c.requires.unit;
      here = here.within;
    }

pub returns : goal.returns
returns c = λ f h planned.
    let x = c.args.x.now.file.now in
    let raw = raw_in x.own in
    let n = c.args.x.now.unit in
    let lt = (shown_row raw c.args.i c.entry.result c.entry.ensures.entry).0 in
    let low : c.args.i < entries_in raw = omega (arith, c.if-i-entries.false, c.entries.ensures) in
    let r = entry_row raw c.args.i c.entry.result c.entry.ensures.entry in
    let unit : r.0.unit ≡ c.entry.result.unit = ap (λ (w : EntryOfCode). w.unit) r.2 in
    let here : IsHereOf raw c.entry.result.unit (slice_index_or x.own.heres.now c.entry.result.unit none) =
    here_there raw x.own.heres.now c.entry.result.unit none c.requires.ready.own.heres lt in
    let is_unit : slice_get raw r.0.unit ≡ Some here.u = ap (λ (m : ℕ). slice_get raw m) unit ∙ here.is_unit in
    let made = layout_view c.args.x.now.layout.now in
    let can = can_read f x h.known made h.laid n c.args.i r.0 here.u planned low r.1 is_unit in
    subst (λ (w : List Operand). OnOk c.put_values.result (c.put_values.new.told.items ≡ c.args.told.now.items ++ w)) (sym (row_tells f x n c.args.i r.0 here.u r.1 is_unit))
    (c.put_values.ensures f here.u r.0 (record { known = h.known; laid = h.laid; here = here.here }) r.1 can)

use Rattle.std.proofs.Common.{◌++◌, ◌-◌, ◌*◌, ℕ, Some, ap, drop, slice_get, sym, ◌∙◌}
use Rattle.std.proofs.lemmas.Result.{on_ok_weaker}
use Rattle.dwz_def_reading.specs.TextRows.{text_number}
use Rattle.dwz_unit.proofs.RowsFound.{row_is}
use Rattle.dwz_graph.proofs.TreeLemmas.{node_attrs}
use Rattle.dwz_label.specs.Labels.{number}
use Rattle.dwz_label_entries.specs.Sources.{raw_of, scope_at}
use Rattle.dwz_label_words.proofs.AttrLemmas.{stays_both}
use Rattle.dwz_label_words.proofs.ShapeLemmas.{both_ok, declared_at, entry_told, meant_shape}
use Rattle.dwz_label_words.proofs.ValueLemmas.{weaker}
use Rattle.dwz_unit.specs.Known.{pairs_of}
use Rattle.dwz_unit.specs.Rows.{EntryRow, rows_of}
use Rattle.dwz_unit.specs.declared.rows.RawEntry.{RawEntry as EntryOfCode}
use Rattle.dwz_label_words.proofs.entries.put_entry_marks.Goals as goal

pub returns-clause-stays : goal.returns-clause-stays
returns-clause-stays c =
    on_ok_weaker c.put_values.result (λ e. stays_both c.args.names.now c.shape.new.self c.put_values.new.names c.in_ok-shape.ensures.stays e) c.put_values.ensures.stays

pub returns-clause-told : goal.returns-clause-told
returns-clause-told c = λ u name row d k number' m each. (
    let x = c.args.source.now in
    let i = c.args.i in
    let old = c.args.out.now.items in
    let declared = c.args.names.now.declarations in
    let is = row_is (raw_of x) i c.entry-entry.result row c.entry-entry.ensures.entry m.found in
    let means = node_attrs (scope_at x u) row.entry d m.means in
    let tag = means.1 ∙ ap (λ (w : EntryOfCode). w.tag) is in
    let below = ap (λ (w : EntryOfCode). w.end - i - 1) is in
    let found = declared_at (λ (n : ℕ). slice_get declared.pairs n) (λ (r : EntryRow). Some (pairs_of r.entry)) declared.numbers (rows_of (raw_of x)) i row c.requires.names.declared m.found in
    let shape = ap (text_number c.shape.new.self.names) (sym (meant_shape (scope_at x u) name row.entry.attrs d c.entry-entry.result.tag means.0 tag))
    ∙ c.in_ok-shape.ensures.found found.0 (pairs_of row.entry) found.1 found.2 in
    let two = c.in_ok-put_plainly.ensures ∙ ap (λ (n : ℕ). c.put_named.new.out.items ++ number (2 * n))
    (c.saturating_sub-2.ensures ∙ ap (λ (j : ℕ). j - 1) c.saturating_sub.ensures ∙ sym below) in
    weaker c.put_values.result _ _ (λ behind t. entry_told name (row.end - i - 1) c.in_ok-shape.shape d c.shape.new.self.names c.put_values.new.names.names
    (drop c.args.next x.refs.now) (drop behind x.refs.now) old c.put_named.new.out.items c.put_plainly.new.out.items c.put_values.new.out.items shape c.in_ok-put_named.ensures two t.0.kept t.1)
    (both_ok c.put_values.result _ _ c.put_values.ensures.stays (c.put_values.ensures.told u name row d k number' m each)))

use Rattle.std.proofs.Common.{◌++◌, ◌-◌, ℕ, ap, drop, sym, ◌∙◌}
use Rattle.dwz_graph.proofs.TreeLemmas.{node_attrs}
use Rattle.dwz_label.specs.Labels.{number}
use Rattle.dwz_unit.proofs.RowsFound.{row_is}
use Rattle.dwz_unit.specs.declared.rows.RawEntry.{RawEntry as EntryOfCode}
use Rattle.dwz_label_entries.specs.Sources.{raw_of, scope_at}
use Rattle.dwz_label_entries.proofs.RowsLemmas.{entry_told}
use Rattle.dwz_label_entries.proofs.entries.put_entry.Goals as goal

pub returns : goal.returns
returns c = λ u name row d k own m. (
    let x = c.args.source.now in
    let i = c.args.i in
    let old = c.args.out.now.items in
    let is = row_is (raw_of x) i c.entry-entry.result row c.entry-entry.ensures.entry m.found in
    let tag = (node_attrs (scope_at x u) row.entry d m.means).1 ∙ ap (λ (w : EntryOfCode). w.tag) is in
    let below = ap (λ (w : EntryOfCode). w.end - i - 1) is in
    entry_told name (row.end - i - 1) c.entry-entry.result.tag d (drop c.args.next x.refs.now) (drop c.in_ok-behind.behind x.refs.now) old c.put_number.new.out.items c.put_number-2.new.out.items
    c.put_values.new.out.items
    (c.in_ok-put_number.ensures ∙ ap (λ (n : ℕ). old ++ number n) (c.saturating_sub-2.ensures ∙ ap (λ (k : ℕ). k - 1) c.saturating_sub.ensures ∙ sym below)) c.in_ok-put_number-2.ensures tag
    (c.in_ok-behind.ensures u name row d k own m))

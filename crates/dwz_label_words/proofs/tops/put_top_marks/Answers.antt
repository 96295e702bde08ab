use Rattle.std.proofs.Common.{◌+◌, ◌++◌, ◌∷◌, [], ℕ, List, ap, drop, subst, sym, ◌∙◌}
use Rattle.dwz_def_reading.specs.Trees.{End, Entry, size}
use Rattle.dwz_def_tops.specs.Spots.{name_list}
use Rattle.dwz_graph.specs.Rows.{AreRowsMeant, nodes}
use Rattle.dwz_graph.proofs.PartLemmas.{rows_unit}
use Rattle.dwz_graph.proofs.TreeLemmas.{tree_means}
use Rattle.dwz_label.specs.Labels.{place_label}
use Rattle.dwz_label_entries.specs.Sources.{raw_of, scope_at}
use Rattle.dwz_label_marks.specs.Marks.{Mark, Named, entries_marks, marks_of, node_marks}
use Rattle.dwz_label_marks.specs.Told.{Adds}
use Rattle.dwz_label_marks.proofs.AddsLemmas.{adds_both, adds_kept, adds_named}
use Rattle.dwz_label_words.proofs.ShapeLemmas.{both_ok}
use Rattle.dwz_label_words.proofs.TopLemmas.{top_marks}
use Rattle.dwz_label_words.proofs.ValueLemmas.{weaker}
use Rattle.dwz_unit.specs.Rows.{rows_below, rows_of}
use Rattle.dwz_unit.proofs.RowLemmas.{shown-length}
use Rattle.dwz_label_words.proofs.tops.put_top_marks.Goals as goal

pub returns-clause-told : goal.returns-clause-told
unfolding marks_of
returns-clause-told c = λ u name depth t h k place at many targets usual. (
    let x = c.args.source.now in
    let raw = raw_of x in
    let s = scope_at x u in
    let n = c.args.here.now.number in
    let old = c.args.out.now.items in
    let mid = c.put_named.new.out.items in
    let rows = rows_below (Entry h.e h.c End) n h.p in
    let ds = nodes (Entry h.d h.g End) in
    let refs = drop c.args.next x.refs.now in
    let head = place_label t.language (name_list t) in
    let names = c.args.names.now.names in
    let meant : AreRowsMeant raw s c.args.first c.args.end refs rows h.after ds = record {
      found = ap (λ (i : ℕ). drop i (rows_of raw)) (sym at) ∙ h.stand;
      count = ap (λ (i : ℕ). c.args.first + i) (shown-length (Entry h.e h.c End) n h.p) ∙ many;
      means = tree_means s (Entry h.e h.c End) (Entry h.d h.g End) n h.p h.means;
      targets = targets;
    } in
    let start = adds_named names head c.args.place old mid place c.in_ok-put_named.ensures in
    let rest = node_marks (size t.below) t.node ++ entries_marks t.below in
    weaker c.put_rows.result _ _ (λ done r.
    adds_both c.put_rows.new.names.names (Named head ∷ []) rest old mid c.put_rows.new.out.items
    (adds_kept names c.put_rows.new.names.names (Named head ∷ []) old mid r.0.kept start)
    (subst (λ (m : List Mark). Adds c.put_rows.new.names.names m mid c.put_rows.new.out.items) (top_marks s name (rows_of raw) n depth c.args.first t h at) r.1))
    (both_ok c.put_rows.result _ _ c.put_rows.ensures.stays
    (c.put_rows.ensures.told u name rows h.after ds k (rows_unit (Entry h.e h.c End) n h.p) meant usual)))

use Rattle.std.proofs.Common.{◌+◌, ◌++◌, ℕ, List, ap, drop, sym, ◌∙◌}
use Rattle.dwz_def_tops.specs.Spots.{name_list}
use Rattle.dwz_def_reading.specs.Trees.{End, Entry}
use Rattle.dwz_graph.specs.Rows.{AreRowsMeant, nodes}
use Rattle.dwz_graph.proofs.PartLemmas.{rows_unit}
use Rattle.dwz_graph.proofs.TreeLemmas.{tree_means}
use Rattle.dwz_unit.specs.Rows.{rows_below, rows_of}
use Rattle.dwz_unit.proofs.RowLemmas.{shown-length}
use Rattle.dwz_label_entries.specs.Sources.{raw_of, rows_label, scope_at}
use Rattle.dwz_label_entries.proofs.TopLemmas.{all_told, top_label}
use Rattle.dwz_label_entries.proofs.top.put_top.Goals as goal

pub returns : goal.returns
returns c = λ u name depth t h k language spaces at many targets. (
    let x = c.args.source.now in
    let raw = raw_of x in
    let s = scope_at x u in
    let n = c.args.here.now.number in
    let old = c.args.out.now.items in
    let rows = rows_below (Entry h.e h.c End) n h.p in
    let ds = nodes (Entry h.d h.g End) in
    let said = rows_label name c.args.first rows ds in
    let refs = drop c.args.next x.refs.now in
    let meant : AreRowsMeant raw s c.args.first c.args.end refs rows h.after ds = record {
      found = ap (λ (i : ℕ). drop i (rows_of raw)) (sym at) ∙ h.stand;
      count = ap (λ (i : ℕ). c.args.first + i) (shown-length (Entry h.e h.c End) n h.p) ∙ many;
      means = tree_means s (Entry h.e h.c End) (Entry h.d h.g End) n h.p h.means;
      targets = targets;
    } in
    all_told c.args.language (name_list t) old c.put_language.new.out.items c.put_names.new.out.items c.put_rows.new.out.items said c.in_ok-put_language.ensures
    (c.in_ok-put_names.ensures u t.spaces k.here spaces) (c.in_ok-put_rows.ensures u name rows h.after ds k (rows_unit (Entry h.e h.c End) n h.p) meant)
    ∙ ap (λ (w : List ℕ). old ++ w) (top_label s name (rows_of raw) n depth c.args.first c.args.language t h language at))

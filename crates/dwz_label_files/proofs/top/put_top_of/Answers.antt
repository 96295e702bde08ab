use Rattle.std.proofs.Common.{◌≡◌, ◌+◌, ◌++◌, ℕ, List, Some, ap, arith, drop, slice_get, subst, sym, ◌∙◌}
use Rattle.std.specs.Prelude.{slice_index}
use Rattle.std.proofs.lemmas.List.{get_or_read}
use Rattle.dwz_graph.specs.Across.{name_at}
use Rattle.dwz_graph.proofs.FileEntries.{all_entries, gives_top}
use Rattle.dwz_label_files.proofs.TopLemmas.{ends_there, entry_there, knows_names, known, label_is, language_is, leads, line_of, line_there, outward, spaces_of, spaces_there, top_at, unit_is}
use Rattle.dwz_label_files.specs.Run.{labels_of}
use Rattle.dwz_def_reading.specs.Trees.{End, Entry}
use Rattle.dwz_def_reading.proofs.ListFacts.{got_below, item_got, same_got}
use Rattle.dwz_graph.specs.Rows.{AreTargets, nodes, nodes_refs}
use Rattle.dwz_label.specs.Shown.{nth_label}
use Rattle.dwz_def_reading.specs.LineTables.{FileTable}
use Rattle.dwz_graph.specs.Parts.{HasLine}
use Rattle.dwz_graph.specs.Resolved.{AreEntries, around}
use Rattle.dwz_unit.specs.Rows.{units_of}
use Rattle.dwz_graph.specs.Index.{Index}
use Rattle.dwz_label_files.proofs.top.put_top_of.Goals as goal

pub file_at-read-requires : goal.file_at-read-requires
file_at-read-requires c = let h = c.requires.there in got_below c.args.run.now.files.now c.args.file h.f h.got

pub index_at-index-requires : goal.index_at-index-requires
index_at-index-requires c = let h = c.requires.there in got_below c.args.run.now.indexes.now c.args.file h.x h.index

pub index-line-requires : goal.index-line-requires
index-line-requires c =
    let r = c.args.run.now in
    let f = c.file_at-read.result.now in
    let x = c.index_at-index.result.now in
    let w = known r c.args.file f x c.args.entry.now c.args.row.now c.requires.run c.file_at-read.ensures c.index_at-index.ensures c.requires.there in
    let low = line_there r.graph.now.given c.args.file w.bytes f x w.is w.k c.args.entry.now w.entry c.args.row.now w.unit in
    let long = f.resolved.lines.ok.0 in
    omega arith

pub entry-end-requires : goal.entry-end-requires
entry-end-requires c =
    let r = c.args.run.now in
    let f = c.file_at-read.result.now in
    let x = c.index_at-index.result.now in
    let w = known r c.args.file f x c.args.entry.now c.args.row.now c.requires.run c.file_at-read.ensures c.index_at-index.ensures c.requires.there in
    entry_there r.graph.now.given c.args.file w.bytes f x w.is w.k c.args.entry.now w.entry

pub index-requires : goal.index-requires
index-requires c =
    let r = c.args.run.now in
    let f = c.file_at-read.result.now in
    let x = c.index_at-index.result.now in
    let w = known r c.args.file f x c.args.entry.now c.args.row.now c.requires.run c.file_at-read.ensures c.index_at-index.ensures c.requires.there in
    let low = entry_there r.graph.now.given c.args.file w.bytes f x w.is w.k c.args.entry.now w.entry in
    let many = w.is.kept.read.parts.many in
    let long = f.resolved.starts.ok.0 in
    omega arith

pub put_top-requires-clause-ready : goal.put_top-requires-clause-ready
put_top-requires-clause-ready c =
    let r = c.args.run.now in
    let f = c.file_at-read.result.now in
    let x = c.index_at-index.result.now in
    let w = known r c.args.file f x c.args.entry.now c.args.row.now c.requires.run c.file_at-read.ensures c.index_at-index.ensures c.requires.there in
    record {
      here = w.unit.within;
      steps = all_entries r.graph.now.given c.args.file w.bytes f x w.is;
      refs = subst (λ (q : List ℕ). AreEntries (units_of f.units) q) (sym c.as_slice.ensures.value) w.is.kept.read.within;
    }

pub put_top-requires-clause-rows : goal.put_top-requires-clause-rows
put_top-requires-clause-rows c =
    let r = c.args.run.now in
    let f = c.file_at-read.result.now in
    let x = c.index_at-index.result.now in
    let w = known r c.args.file f x c.args.entry.now c.args.row.now c.requires.run c.file_at-read.ensures c.index_at-index.ensures c.requires.there in
    ends_there r.graph.now.given c.args.file w.bytes f x w.is w.k c.args.entry.now w.entry c.args.row.now w.unit c.entry-end.result c.entry-end.ensures.entry

pub put_top-requires-clause-spaces : goal.put_top-requires-clause-spaces
put_top-requires-clause-spaces c =
    let r = c.args.run.now in
    let f = c.file_at-read.result.now in
    let x = c.index_at-index.result.now in
    let w = known r c.args.file f x c.args.entry.now c.args.row.now c.requires.run c.file_at-read.ensures c.index_at-index.ensures c.requires.there in
    spaces_there r.graph.now.given c.args.file w.bytes f x w.is w.k c.args.entry.now w.entry c.args.row.now w.unit _
    (c.as_slice-3.ensures.value ∙ c.in_ok-put_spaces.ensures (leads r.graph.now.given c.args.file w.bytes f x w.is w.k c.args.entry.now w.entry).entries
    (outward r.graph.now.given c.args.file w.bytes f x w.is w.k c.args.entry.now w.entry _ _ c.starts.ensures c.spaces.ensures))

pub returns : goal.returns
returns c = λ y k got entry. (
    let r = c.args.run.now in
    let file = c.args.file in
    let e = c.args.entry.now in
    let f = c.file_at-read.result.now in
    let x = c.index_at-index.result.now in
    let w = known r file f x e c.args.row.now c.requires.run c.file_at-read.ensures c.index_at-index.ensures c.requires.there in
    let same : y ≡ x = same_got r.indexes.now file y x got c.index_at-index.ensures in
    let own : slice_get x.tops k ≡ Some e = ap (λ (q : Index). slice_get q.tops k) (sym same) ∙ entry in
    let bytes = w.bytes in
    let is = w.is in
    let row = c.args.row.now in
    let l = leads r.graph.now.given file bytes f x is k e own in
    let spaces = c.as_slice-3.ensures.value ∙ c.in_ok-put_spaces.ensures l.entries (outward r.graph.now.given file bytes f x is k e own _ _ c.starts.ensures c.spaces.ensures) in
    let at = top_at r.graph.now.given file bytes f x is k e own row w.unit c.entry-end.result c.entry-end.ensures.entry in
    let t = (gives_top r.graph.now.given file bytes f x is k e own).top in
    let doc = is.kept.read.doc in
    let name = name_at x.starts doc in
    let raw = units_of f.units in
    let lines = f.resolved.lines.items in
    let low = line_there r.graph.now.given file bytes f x is k e own row w.unit in
    let line = line_of r.graph.now.given file bytes f x is row.here.number w.unit.u c.index-line.result.now (unit_is r.graph.now.given file bytes f x is k e own row w.unit)
    (item_got lines row.here.number c.index-line.result.now low c.index-line.ensures) in
    let tables = subst (λ (q : List FileTable). HasLine (around f.sections raw) w.unit.u q c.index-line.result.now) (sym c.as_slice-2.ensures.value) line in
    let low_entry = entry_there r.graph.now.given file bytes f x is k e own in
    let many = is.kept.read.parts.many in
    let next : c.index.result.now ≡ slice_index f.resolved.starts.items e.entry = get_or_read f.resolved.starts.items e.entry c.index.result.now (omega arith) c.index.ensures 0 in
    let refs : drop (slice_index f.resolved.starts.items e.entry) f.resolved.refs.items ≡ drop c.index.result.now c.as_slice.result.now = (λ i. drop (sym next i) (sym c.as_slice.ensures.value i)) in
    let targets = subst (λ (q : List ℕ). AreTargets raw q (nodes_refs (nodes (Entry at.has.d at.has.g End)))) refs at.targets in
    let told = c.in_ok-put_top.ensures w.unit.u name 2 t at.has (record { here = w.unit.here; names = knows_names r.graph.now.given file bytes f x is; line = tables })
    (language_is r.graph.now.given file bytes f x is k e own row w.unit c.entry-end.result c.entry-end.ensures.entry)
    (spaces_of r.graph.now.given file bytes f x is k e own row w.unit _ spaces) at.from at.to targets in
    told ∙ ap (λ (q : List ℕ). c.args.out.now.items ++ q) (sym (label_is r.graph.now.given file bytes f x is k e own))
    ∙ ap (λ (q : Index). c.args.out.now.items ++ nth_label (labels_of r.graph.now.given) (q.starts.top + k)) (sym same))

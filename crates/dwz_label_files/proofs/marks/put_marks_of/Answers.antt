use Rattle.std.proofs.Common.{◌≡◌, ◌+◌, ℕ, List, Some, ap, arith, drop, refl, slice_get, subst, sym, ◌∙◌}
use Rattle.std.specs.Prelude.{OnOk, slice_index}
use Rattle.std.proofs.lemmas.List.{get_or_read}
use Rattle.dwz_graph.specs.Across.{name_at}
use Rattle.dwz_graph.proofs.FileEntries.{all_entries, gives_top}
use Rattle.dwz_label_files.proofs.TopLemmas.{ends_there, entry_there, knows_names, known, line_of, line_there, top_at, unit_is}
use Rattle.dwz_def_reading.specs.Trees.{End, Entry}
use Rattle.dwz_def_reading.proofs.ListFacts.{got_below, got_in, item_got, same_got}
use Rattle.dwz_def_tops.specs.Alike.{Movable}
use Rattle.dwz_def_tops.specs.Spots.{Top, tops_of, units_of as file_units}
use Rattle.dwz_graph.specs.Files.{docs_of}
use Rattle.dwz_graph.specs.Rows.{AreTargets, nodes, nodes_refs}
use Rattle.dwz_def_reading.specs.LineTables.{FileTable}
use Rattle.dwz_graph.specs.Parts.{HasLine}
use Rattle.dwz_graph.specs.Resolved.{AreEntries, around, scope_in}
use Rattle.dwz_label_marks.specs.Marks.{marks_of}
use Rattle.dwz_label_marks.specs.Told.{Adds}
use Rattle.dwz_label_words.proofs.UsualTops.{usual_top}
use Rattle.dwz_unit.specs.Rows.{rows_of, units_of}
use Rattle.dwz_graph.specs.Index.{Index}
use Rattle.dwz_label_files.proofs.marks.put_marks_of.Goals as goal

pub file_at-read-requires : goal.file_at-read-requires
file_at-read-requires c = let h = c.requires.there in got_below c.args.run.now.files.now c.args.file h.f h.got

pub index_at-requires : goal.index_at-requires
index_at-requires c = let h = c.requires.there in got_below c.args.run.now.indexes.now c.args.file h.x h.index

pub index-line-requires : goal.index-line-requires
index-line-requires c =
    let r = c.args.run.now in
    let f = c.file_at-read.result.now in
    let x = c.index_at.result.now in
    let w = known r c.args.file f x c.args.entry.now c.args.row.now c.requires.run c.file_at-read.ensures c.index_at.ensures c.requires.there in
    let low = line_there r.graph.now.given c.args.file w.bytes f x w.is w.k c.args.entry.now w.entry c.args.row.now w.unit in
    let long = f.resolved.lines.ok.0 in
    omega arith

pub entry-end-requires : goal.entry-end-requires
entry-end-requires c =
    let r = c.args.run.now in
    let f = c.file_at-read.result.now in
    let x = c.index_at.result.now in
    let w = known r c.args.file f x c.args.entry.now c.args.row.now c.requires.run c.file_at-read.ensures c.index_at.ensures c.requires.there in
    entry_there r.graph.now.given c.args.file w.bytes f x w.is w.k c.args.entry.now w.entry

pub index-requires : goal.index-requires
index-requires c =
    let r = c.args.run.now in
    let f = c.file_at-read.result.now in
    let x = c.index_at.result.now in
    let w = known r c.args.file f x c.args.entry.now c.args.row.now c.requires.run c.file_at-read.ensures c.index_at.ensures c.requires.there in
    let low = entry_there r.graph.now.given c.args.file w.bytes f x w.is w.k c.args.entry.now w.entry in
    let many = w.is.kept.read.parts.many in
    let long = f.resolved.starts.ok.0 in
    omega arith

pub put_top_marks-requires-clause-ready : goal.put_top_marks-requires-clause-ready
put_top_marks-requires-clause-ready c =
    let r = c.args.run.now in
    let f = c.file_at-read.result.now in
    let x = c.index_at.result.now in
    let w = known r c.args.file f x c.args.entry.now c.args.row.now c.requires.run c.file_at-read.ensures c.index_at.ensures c.requires.there in
    record {
      here = w.unit.within;
      steps = all_entries r.graph.now.given c.args.file w.bytes f x w.is;
      refs = subst (λ (q : List ℕ). AreEntries (units_of f.units) q) (sym c.as_slice.ensures.value) w.is.kept.read.within;
    }

pub put_top_marks-requires-clause-names : goal.put_top_marks-requires-clause-names
put_top_marks-requires-clause-names c =
    let own = c.requires.names c.file_at-read.result.now c.file_at-read.ensures in
    record { strs = own.strs; tables = own.tables ∙ sym c.as_slice-2.ensures.value; declared = own.declared }

pub put_top_marks-requires-clause-rows : goal.put_top_marks-requires-clause-rows
put_top_marks-requires-clause-rows c =
    let r = c.args.run.now in
    let f = c.file_at-read.result.now in
    let x = c.index_at.result.now in
    let w = known r c.args.file f x c.args.entry.now c.args.row.now c.requires.run c.file_at-read.ensures c.index_at.ensures c.requires.there in
    ends_there r.graph.now.given c.args.file w.bytes f x w.is w.k c.args.entry.now w.entry c.args.row.now w.unit c.entry-end.result c.entry-end.ensures.entry

pub returns-clause-told : goal.returns-clause-told
returns-clause-told c = λ y k t got entry there free. (
    let r = c.args.run.now in
    let file = c.args.file in
    let contents = r.graph.now.given in
    let units = file_units (docs_of contents) in
    let e = c.args.entry.now in
    let row = c.args.row.now in
    let f = c.file_at-read.result.now in
    let x = c.index_at.result.now in
    let w = known r file f x e row c.requires.run c.file_at-read.ensures c.index_at.ensures c.requires.there in
    let same : y ≡ x = same_got r.indexes.now file y x got c.index_at.ensures in
    let own : slice_get x.tops k ≡ Some e = ap (λ (q : Index). slice_get q.tops k) (sym same) ∙ entry in
    let bytes = w.bytes in
    let is = w.is in
    let gives = gives_top contents file bytes f x is k e own in
    let here : slice_get (tops_of units) (x.starts.top + k) ≡ Some t = ap (λ (q : Index). slice_get (tops_of units) (q.starts.top + k)) (sym same) ∙ there in
    let is_top : t ≡ gives.top = same_got (tops_of units) (x.starts.top + k) t gives.top here gives.top_is.there in
    let at = top_at contents file bytes f x is k e own row w.unit c.entry-end.result c.entry-end.ensures.entry in
    let doc = is.kept.read.doc in
    let name = name_at x.starts doc in
    let raw = units_of f.units in
    let lines = f.resolved.lines.items in
    let low = line_there contents file bytes f x is k e own row w.unit in
    let line = line_of contents file bytes f x is row.here.number w.unit.u c.index-line.result.now (unit_is contents file bytes f x is k e own row w.unit)
    (item_got lines row.here.number c.index-line.result.now low c.index-line.ensures) in
    let tables = subst (λ (q : List FileTable). HasLine (around f.sections raw) w.unit.u q c.index-line.result.now) (sym c.as_slice-2.ensures.value) line in
    let low_entry = entry_there contents file bytes f x is k e own in
    let many = is.kept.read.parts.many in
    let next : c.index.result.now ≡ slice_index f.resolved.starts.items e.entry = get_or_read f.resolved.starts.items e.entry c.index.result.now (omega arith) c.index.ensures 0 in
    let refs : drop (slice_index f.resolved.starts.items e.entry) f.resolved.refs.items ≡ drop c.index.result.now c.as_slice.result.now = (λ i. drop (sym next i) (sym c.as_slice.ensures.value i)) in
    let targets = subst (λ (q : List ℕ). AreTargets raw q (nodes_refs (nodes (Entry at.has.d at.has.g End)))) refs at.targets in
    let moves = subst (λ (q : Top). Movable units q.number) is_top free in
    let usual = usual_top units gives.top (got_in (tops_of units) (x.starts.top + k) gives.top gives.top_is.there) moves (scope_in f.sections raw w.unit.u) name (rows_of raw) row.here.number 2 refl at.has in
    let place = c.requires.place x k e gives.top c.index_at.ensures own (sym c.requires.own.0) (sym c.requires.own.1) gives.top_is.there in
    let told = c.put_top_marks.ensures.told w.unit.u name 2 gives.top at.has (record { here = w.unit.here; names = knows_names contents file bytes f x is; line = tables }) place at.from at.to targets
    usual in
    subst (λ (q : Top). OnOk c.put_top_marks.result (Adds c.put_top_marks.new.names.names (marks_of q) c.args.out.now.items c.put_top_marks.new.out.items)) (sym is_top) told)

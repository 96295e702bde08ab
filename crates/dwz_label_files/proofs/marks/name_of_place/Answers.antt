use Rattle.std.proofs.Common.{◌≡◌, ◌+◌, ◌-◌, ℕ, List, Some, Ok, Err, ap, arith, length, map, slice_get, subst, sym, ◌∙◌}
use Rattle.std.specs.Prelude.{IfOk}
use Rattle.std.specs.declared.result.Result.{Result}
use Rattle.std.proofs.lemmas.List.{length-map}
use Rattle.dwz_def_reading.proofs.ListFacts.{got_below, got_there, same_got}
use Rattle.dwz_def_reading.specs.TextRows.{text_number}
use Rattle.dwz_def_reading.specs.Units.{RawUnit}
use Rattle.dwz_def_tops.specs.Spots.{SpaceName, Top, name_list, tops_of, units_of}
use Rattle.dwz_graph.specs.Chains.{AreSpacesAt, IsOut}
use Rattle.dwz_graph.specs.Files.{docs_of}
use Rattle.dwz_graph.specs.Index.{Index}
use Rattle.dwz_graph.specs.Resolved.{IsHere, around}
use Rattle.dwz_unit.proofs.RowsFound.{rows-length}
use Rattle.dwz_label.specs.Labels.{place_label}
use Rattle.dwz_label_files.specs.Marked.{IsPlace}
use Rattle.dwz_label_files.specs.Unit.{IsUnitRow}
use Rattle.dwz_label_files.proofs.TopLemmas.{entry_there, known, language_is, leads, outward, spaces_of, spaces_there}
use Rattle.dwz_graph.proofs.FileEntries.{gives_top}
use Rattle.dwz_unit.specs.Rows.{entry_shown, rows_of, shown_entries, units_of as raw_units}
use Rattle.dwz_label_files.proofs.marks.name_of_place.Goals as goal

pub file_at-read-requires : goal.file_at-read-requires
file_at-read-requires c = let h = c.requires.there in got_below c.args.run.now.files.now c.args.file h.f h.got

pub index_at-index-requires : goal.index_at-index-requires
index_at-index-requires c = let h = c.requires.there in got_below c.args.run.now.indexes.now c.args.file h.x h.index

pub name_place-requires : goal.name_place-requires
name_place-requires c =
    let r = c.args.run.now in
    let f = c.file_at-read.result.now in
    let x = c.index_at-index.result.now in
    let w = known r c.args.file f x c.args.entry.now c.args.row.now c.requires.run c.file_at-read.ensures c.index_at-index.ensures c.requires.there in
    spaces_there r.graph.now.given c.args.file w.bytes f x w.is w.k c.args.entry.now w.entry c.args.row.now w.unit _
    (c.as_slice-3.ensures.value ∙ c.in_ok-put_spaces.ensures (leads r.graph.now.given c.args.file w.bytes f x w.is w.k c.args.entry.now w.entry).entries
    (outward r.graph.now.given c.args.file w.bytes f x w.is w.k c.args.entry.now w.entry _ _ c.starts.ensures c.spaces.ensures))

pub returns-clause-name : goal.returns-clause-name
returns-clause-name c = named c.name_place.result c.name_place.ensures.told where
  named : {E : Type 0} (o : Result ℕ E)
      → ((u : RawUnit) (list : List SpaceName) → IsHere (raw_units c.file_at-read.result.now.units) u c.args.row.now.here
      → AreSpacesAt (raw_units c.file_at-read.result.now.units) (around c.file_at-read.result.now.sections (raw_units c.file_at-read.result.now.units)) c.args.row.now.here.number list c.as_slice-3.result.now
      → IfOk o (λ n. text_number c.name_place.new.names.names (place_label c.args.row.now.language (map (λ x. x.text) list)) ≡ Some n))
      → IfOk o (IsPlace c.args.run.now c.args.file c.name_place.new.names.names c.args.entry.now.unit c.args.entry.now.inner)
  named (Err e) told = tt
  named (Ok n) told = λ y k e t got entry unit inner there. (
      let r = c.args.run.now in
      let file = c.args.file in
      let row = c.args.row.now in
      let f = c.file_at-read.result.now in
      let x = c.index_at-index.result.now in
      let w = known r file f x c.args.entry.now row c.requires.run c.file_at-read.ensures c.index_at-index.ensures c.requires.there in
      let contents = r.graph.now.given in
      let raw = raw_units f.units in
      let tops = tops_of (units_of (docs_of contents)) in
      let same : y ≡ x = same_got r.indexes.now file y x got c.index_at-index.ensures in
      let own : slice_get x.tops k ≡ Some e = ap (λ (q : Index). slice_get q.tops k) (sym same) ∙ entry in
      let of_unit : IsUnitRow raw (e.unit - x.starts.unit) row = subst (λ (j : ℕ). IsUnitRow raw (j - x.starts.unit) row) (sym unit) w.unit in
      let l = leads contents file w.bytes f x w.is k e own in
      let out : IsOut c.starts.result.space c.spaces.result.now c.args.entry.now.inner l.entries =
      subst (λ (j : ℕ). IsOut c.starts.result.space c.spaces.result.now j l.entries) inner (outward contents file w.bytes f x w.is k e own _ _ c.starts.ensures c.spaces.ensures) in
      let spaces = c.as_slice-3.ensures.value ∙ c.in_ok-put_spaces.ensures l.entries out in
      let gives = gives_top contents file w.bytes f x w.is k e own in
      let is_top : t ≡ gives.top = same_got tops (x.starts.top + k) t gives.top (ap (λ (q : Index). slice_get tops (q.starts.top + k)) (sym same) ∙ there) gives.top_is.there in
      let low = entry_there contents file w.bytes f x w.is k e own in
      let many : length (shown_entries raw) ≡ length (rows_of raw) = length-map (rows_of raw) entry_shown in
      let all = rows-length raw in
      let shown = got_there (shown_entries raw) e.entry (omega arith) in
      let language = language_is contents file w.bytes f x w.is k e own row of_unit shown.0 shown.1 in
      ap (λ (q : Top). text_number c.name_place.new.names.names (place_label q.language (name_list q))) is_top
      ∙ ap (λ (q : _). text_number c.name_place.new.names.names (place_label q (name_list gives.top))) language
      ∙ told w.unit.u gives.top.spaces w.unit.here (spaces_of contents file w.bytes f x w.is k e own row of_unit _ spaces))

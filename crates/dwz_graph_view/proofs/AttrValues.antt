-- What an attribute says.
use Rattle.std.proofs.Common.{◌≡◌, ℕ, List, Option, Some, None, Result, Ok, Err, slice_get, refl, sym, ap, subst, ◌∙◌}
use Rattle.std.specs.Prelude.{IfOk}
use Rattle.std.specs.Option.{option_map}
use Rattle.dwz_model.specs.declared.place.Place.{Place}
use Rattle.dwz_def_reading.specs.Documents.{Attr, Value}
use Rattle.dwz_def_reading.specs.Entries.{RawAttr}
use Rattle.dwz_def_reading.specs.Files.{Limits, around_of}
use Rattle.dwz_def_reading.specs.Meanings.{MeaningContext, scope_of, without_siblings}
use Rattle.dwz_def_reading.specs.Meant.{meaning}
use Rattle.dwz_def_reading.specs.Units.{RawUnit}
use Rattle.dwz_def_reading.proofs.ListFacts.{same_got}
use Rattle.dwz_def_reading.proofs.MeaningLemmas.{value_agrees}
use Rattle.dwz_graph.specs.declared.file.File.{File}
use Rattle.dwz_graph.specs.Files.{AreKept, IsRead, docs_of}
use Rattle.dwz_unit.proofs.RowsFound.{attr_there}
use Rattle.dwz_label_entries.specs.Plain.{KnowsLine}
use Rattle.dwz_unit.specs.Rows.{EntryRow, attr_of, rows_of, units_of}
use Rattle.dwz_graph_view.specs.declared.setting.Setting.{Setting}
use Rattle.dwz_graph_view.specs.declared.value_views.ValueView.{ValueView}
use Rattle.dwz_graph_view.specs.AttrViews.{attr_at, form_view}
use Rattle.dwz_graph_view.specs.EntryRows.{IsNumberAt}
use Rattle.dwz_graph_view.specs.Settings.{IsSettingOf, IsSomeFile, KnowsSetting}
use Rattle.dwz_graph_view.specs.ValueViews.{Shows, value_of_attr, value_shown}
use Rattle.dwz_graph_view.proofs.AttrSteps.{is, meant, scope, there}
use Rattle.dwz_graph_view.proofs.FileDocs.{IsFileOf, file_of}

module _ (contents : List (List ℕ)) (files : List File) (p : Place) (i : ℕ) (f : File) (n : IsNumberAt contents p i) (kept : AreKept contents files) (got : slice_get files p.file ≡ Some f) where
  abbrev o : IsFileOf contents p.file f
  o = file_of contents files p.file f kept got

  abbrev raw : List RawUnit
  raw = units_of f.units

  pub some_file : IsSomeFile f
  some_file = (o.limits, p.file, o.bytes, o.read)

  read_here : IsRead o.limits p.file n.bytes f
  read_here = subst (λ (b : List ℕ). IsRead o.limits p.file b f) (same_got contents p.file o.bytes n.bytes o.content n.content) o.read

  pub value_is : {E : Type 0} (index k : ℕ) (a : RawAttr) (x : Setting) (r : Result (Option ValueView) E)
      → ((row : EntryRow) → slice_get (rows_of raw) i ≡ Some row → slice_get (without_siblings row.entry.attrs) index ≡ slice_get row.entry.attrs k) → attr_of raw i k ≡ Some a
      → ((l : Limits) (m : ℕ) (bytes : List ℕ) (row : EntryRow) (u : RawUnit) → IsRead l m bytes f → slice_get (rows_of raw) i ≡ Some row → slice_get raw row.unit ≡ Some u
      → IsSettingOf x p.file row.entry (scope_of (around_of bytes raw) u))
      → ((s : MeaningContext ℕ) (v : Value ℕ) → KnowsSetting x s → KnowsLine s a x.tables.now x.line → meaning s a ≡ Ok v → IfOk r (λ w. Shows x.file v w))
      → IfOk r (λ w. option_map value_shown w ≡ option_map (value_of_attr p.file) (attr_at (docs_of contents) p index))
  value_is {E = E} index k a x r same e set says =
      let row = is contents files p i f n kept got index in
      let s = scope contents files p i f n kept got index in
      let m = meant contents files p i f n kept got index k a same e in
      let st = set o.limits p.file n.bytes row.row row.u read_here row.found row.is_unit in
      let means : meaning s a ≡ Ok m.0.value = ((value_agrees s a).ok m.0.value).1 m.2.value in
      by r (says s m.0.value st.knows (st.line k a (attr_there raw i k row.row a row.found e)) means) where
        by : (r : Result (Option ValueView) E) → IfOk r (λ w. Shows x.file (meant contents files p i f n kept got index k a same e).0.value w)
            → IfOk r (λ w. option_map value_shown w ≡ option_map (value_of_attr p.file) (attr_at (docs_of contents) p index))
        by (Err f) h = tt
        by (Ok w) h =
            let m = meant contents files p i f n kept got index k a same e in
            let row = is contents files p i f n kept got index in
            let st = set o.limits p.file n.bytes row.row row.u read_here row.found row.is_unit in
            subst (λ (q : ℕ). Shows q m.0.value w) st.file h
            ∙ ap (option_map (value_of_attr p.file)) (sym (there contents files p i f n kept got index ∙ m.1))

pub form_none : (file : ℕ) (a : Option (Attr ℕ)) → None ≡ option_map form_view a → None ≡ option_map (value_of_attr file) a
form_none file None is = refl
form_none file (Some a) is = absurd cc

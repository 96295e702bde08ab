-- Sources of the file, by their rows and units.
use Rattle.std.proofs.Common.{◌≡◌, ℕ, ◌<◌, List, Option, Some, None, Result, Ok, slice_get, refl, ap, subst, ◌∙◌, ◌-◌, ◌≤◌, arith, inl, inr}
use Rattle.dwz_model.specs.declared.fault.Fault.{Fault}
use Rattle.dwz_def_reading.specs.Documents.{Attr, Node}
use Rattle.dwz_def_reading.specs.Meanings.{scope_of, without_siblings}
use Rattle.dwz_def_reading.specs.Meant.{attrs_meaning}
use Rattle.std.proofs.lemmas.Bool.{cases_lt}
use Rattle.dwz_model.proofs.ListFacts.{got_below}
use Rattle.dwz_def_reading.specs.Places.{Place}
use Rattle.dwz_def_reading.specs.Units.{RawUnit, entries_in}
use Rattle.dwz_def_expand.specs.OneFile.{OneFile}
use Rattle.dwz_expand_sources.specs.Index.{listed_units}
use Rattle.dwz_check_labels.proofs.EntryLemmas.{row_of}
use Rattle.dwz_graph.proofs.TreeLemmas.{node_attrs}
use Rattle.dwz_unit.specs.Rows.{EntryRow, rows_of}
use Rattle.dwz_expand_sources.specs.Sources.{all_entries}
use Rattle.dwz_expand_layout.specs.Lines.{Line}
use Rattle.dwz_expand_passes.specs.declared.files.SourceFile.{SourceFile}
use Rattle.dwz_expand_passes.specs.Files.{KnowsCommon, around_beside, common_count, common_of, raw_in}
use Rattle.dwz_expand_passes.proofs.FitLemmas.{common_source, got_first_entry, got_second_entry}
use Rattle.dwz_expand_passes.proofs.LineSteps.{node_there}
use Rattle.dwz_expand_passes.proofs.SaidLemmas.{all_many}
use Rattle.dwz_expand_passes.specs.declared.new_file.NewFile.{NewFile}
use Rattle.dwz_expand_passes.specs.Lined.{all_lines}
use Rattle.dwz_expand.specs.OneKnown.{stands_of}
use Rattle.dwz_expand.specs.Units.{IsOfOne}
use Rattle.dwz_expand.proofs.StoredEntries.{common_entry}
use Rattle.dwz_expand.specs.Gathered.{own_scope}

-- ---- rows of the file

module _ (f : OneFile) (x : NewFile) (k : IsOfOne f x) where
  abbrev raw : List RawUnit
  raw = raw_in x.own

  pub record OwnRow (i : ℕ) (l : Line ℕ) : Type 0 where
    pub row : EntryRow
    pub u : RawUnit
    pub found : slice_get (rows_of raw) i ≡ Some row
    pub is_unit : slice_get raw row.unit ≡ Some u
    pub means : attrs_meaning (own_scope x u) (without_siblings row.entry.attrs) ≡ Ok l.node.attrs

  pub own_row : (i : ℕ) (l : Line ℕ) → slice_get (all_lines k.w) i ≡ Some l → i < entries_in raw → OwnRow i l
  own_row i l found lt =
      let around = around_beside x.own (common_of x.common) in
      let d = node_there k.w i l found in
      let listed : slice_get (listed_units k.w.own) i ≡ Some d.0 = got_first_entry k.w.own k.w.common raw around k.says.own.means i d.0 lt d.1 in
      let o = row_of around raw k.w.own i d.0 k.says.own.means listed in
      record {
        row = o.row;
        u = o.u;
        found = o.found;
        is_unit = o.is_unit;
        means =
            (node_attrs (scope_of around o.u) o.row.entry d.0.0 o.means).0
            ∙ ap (λ (m : Node ℕ). let r : Result (List (Attr ℕ)) Fault = Ok m.attrs in r) d.2;
      }

  -- an entry of which no row is one of the file is of the common file
  pub own_low : (i : ℕ) (l : Line ℕ) → slice_get (all_lines k.w) i ≡ Some l → (k.place l.node.at).file ≡ 0 → i < entries_in raw
  own_low i l found file = elim (cases_lt i (entries_in raw)) [
    | inl less ↦ less
    | inr le ↦ absurd (in_common (x.common) refl le)
  ] where
    in_common : (o : Option SourceFile) → x.common ≡ o → entries_in raw ≤ i → ⊥
    in_common None is le =
        let d = node_there k.w i l found in
        let low = got_below (all_entries k.w) i d.0 d.1 in
        let many = all_many x k.w (stands_of f k.place) k.says in
        let none : common_count x.common ≡ 0 = ap (λ (o : Option SourceFile). common_count o) is in
        omega (arith, low, many, none, le)
    in_common (Some c) is le =
        let around = around_beside c None in
        let first = entries_in raw in
        let knows : KnowsCommon (Some c) k.w.common (stands_of f k.place) = subst (λ (o : Option SourceFile). KnowsCommon o k.w.common (stands_of f k.place)) is k.says.common in
        let d = node_there k.w i l found in
        let listed : slice_get (listed_units k.w.common) (i - first) ≡ Some d.0 =
        got_second_entry k.w.own k.w.common raw (around_beside x.own (common_of x.common)) k.says.own.means i d.0 le d.1 in
        let e = common_source knows.0 k.w.common knows.2 (i - first) d.0 listed in
        let o = row_of around (raw_in c) knows.0 (i - first) e.0 knows.1.means e.1 in
        let entry = common_entry f x k i l found c o.row o.u is le o.found o.is_unit in
        let one : (k.place l.node.at).file ≡ 1 = ap (λ (q : Place). q.file) entry.at in
        omega (arith, one, file)

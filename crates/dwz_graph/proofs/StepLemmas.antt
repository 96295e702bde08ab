-- What is known of values and rows is known of those behind the first, with the numbers behind those that the first names.
use Rattle.std.proofs.Common.{◌≡◌, ℕ, ◌+◌, ◌<◌, ◌≤◌, List, [], ◌∷◌, ◌++◌, length, drop, refl, sym, ap, subst, ◌∙◌, arith, ne_eqb, eq-eqb}
use Rattle.std.specs.Prelude.{if◌then◌else◌, Bool}
use Rattle.dwz_def_reading.specs.Reading.{◌>>=◌}
use Rattle.dwz_def_reading.specs.Entries.{RawAttr}
use Rattle.dwz_def_reading.specs.Units.{RawUnit}
use Rattle.dwz_def_reading.proofs.PartLemmas.{bind_ok}
use Rattle.dwz_def_reading.proofs.ListFacts.{drop_first}
use Rattle.dwz_graph.specs.Rows.{AreAttrsMeant, AreRowsMeant, AreTargets, IsEntryMeant, NextAttr, NextRow, RowsMean, node_refs, nodes_refs}
use Rattle.dwz_graph.proofs.TreeLemmas.{node_attrs}
use Rattle.dwz_def_reading.specs.Documents.{Attr, Node}
use Rattle.dwz_def_reading.specs.Meanings.{MeaningContext, without_siblings}
use Rattle.dwz_def_reading.specs.Meant.{attr_with, attrs_meaning, meaning, with_attr}
use Rattle.dwz_graph_resolve.specs.Named.{attrs_refs, value_refs}
use Rattle.dwz_unit.specs.Rows.{EntryRow, rows_of}

-- ---- numbers of what is named

pub targets_first : (raw : List RawUnit) (numbers xs ys : List ℕ) → AreTargets raw numbers (xs ++ ys) → AreTargets raw numbers xs
targets_first raw numbers [] ys h = tt
targets_first raw [] (x ∷ xs) ys h = absurd h
targets_first raw (i ∷ numbers) (x ∷ xs) ys h = (h.0, h.1, targets_first raw numbers xs ys h.2)

pub targets_rest : (raw : List RawUnit) (numbers xs ys : List ℕ) → AreTargets raw numbers (xs ++ ys) → AreTargets raw (drop (length xs) numbers) ys
targets_rest raw numbers [] ys h = h
targets_rest raw [] (x ∷ xs) ys h = absurd h
targets_rest raw (i ∷ numbers) (x ∷ xs) ys h = targets_rest raw numbers xs ys h.2

-- ---- values

pub skipped : (a : RawAttr) (values : List RawAttr) → a.pair.name ≡ 0x01 → without_siblings (a ∷ values) ≡ without_siblings values
unfolding without_siblings
skipped a values e = ap (λ (b : Bool). if b then without_siblings values else a ∷ without_siblings values) (eq-eqb a.pair.name 0x01 e)

pub taken : (a : RawAttr) (values : List RawAttr) → (a.pair.name ≡ 0x01 → ⊥) → without_siblings (a ∷ values) ≡ a ∷ without_siblings values
unfolding without_siblings
taken a values ne = ap (λ (b : Bool). if b then without_siblings values else a ∷ without_siblings values) (ne_eqb a.pair.name 0x01 ne)

pub sibling : (raw : List RawUnit) (s : MeaningContext ℕ) (numbers : List ℕ) (a : RawAttr) (values : List RawAttr) (attrs : List (Attr ℕ)) → a.pair.name ≡ 0x01
    → AreAttrsMeant raw s numbers (a ∷ values) attrs
    → AreAttrsMeant raw s numbers values attrs
sibling raw s numbers a values attrs e h = record {
  means = ap (attrs_meaning s) (sym (skipped a values e)) ∙ h.means;
  targets = h.targets;
}

pub value : (raw : List RawUnit) (s : MeaningContext ℕ) (numbers : List ℕ) (a : RawAttr) (values : List RawAttr) (attrs : List (Attr ℕ)) → (a.pair.name ≡ 0x01 → ⊥)
    → AreAttrsMeant raw s numbers (a ∷ values) attrs → NextAttr raw s numbers a values attrs
unfolding attrs_meaning
value raw s numbers a values attrs ne h =
    let e = ap (attrs_meaning s) (sym (taken a values ne)) ∙ h.means in
    let x = bind_ok (meaning s a) (λ v. attrs_meaning s (without_siblings values) >>= with_attr a v) attrs e in
    let y = bind_ok (attrs_meaning s (without_siblings values)) (with_attr a x.0) attrs x.2 in
    let z : attr_with a x.0 ∷ y.0 ≡ attrs = cc in
    let t = subst (λ (w : List (Attr ℕ)). AreTargets raw numbers (attrs_refs w)) (sym z) h.targets in
    record {
      value = x.0;
      left = y.0;
      means = x.1;
      parts = sym z;
      targets = targets_first raw numbers (value_refs x.0) (attrs_refs y.0) t;
      rest = record { means = y.1; targets = targets_rest raw numbers (value_refs x.0) (attrs_refs y.0) t };
    }

pub no_value : (raw : List RawUnit) (s : MeaningContext ℕ) (numbers : List ℕ) (attrs : List (Attr ℕ)) → AreAttrsMeant raw s numbers [] attrs → attrs ≡ []
unfolding attrs_meaning without_siblings
no_value raw s numbers attrs h = let e = h.means in let w : [] ≡ attrs = cc in sym w

pub entry : (raw : List RawUnit) (s : MeaningContext ℕ) (i : ℕ) (numbers : List ℕ) (row : EntryRow) (d : Node ℕ) → IsEntryMeant raw s i numbers row d
    → AreAttrsMeant raw s numbers row.entry.attrs d.attrs
entry raw s i numbers row d h = record { means = (node_attrs s row.entry d h.means).0; targets = h.targets }

-- ---- rows

next_row : (raw : List RawUnit) (s : MeaningContext ℕ) (i end : ℕ) (numbers : List ℕ) (rows after : List EntryRow) (ds : List (Node ℕ)) → i < end → drop i (rows_of raw) ≡ rows ++ after
    → i + length rows ≡ end
    → RowsMean s rows ds → AreTargets raw numbers (nodes_refs ds) → NextRow raw s i end numbers rows after ds
next_row raw s i end numbers [] after ds lt found count means targets = absurd (omega (arith, lt, count))
next_row raw s i end numbers (row ∷ rows) after [] lt found count means targets = absurd means
next_row raw s i end numbers (row ∷ rows) after (d ∷ ds) lt found count means targets =
    let f = drop_first (rows_of raw) i row (rows ++ after) found in
    record {
      row = row;
      others = rows;
      d = d;
      left = ds;
      rows_are = refl;
      ds_are = refl;
      entry = record { found = f.0; means = means.0; targets = targets_first raw numbers (node_refs d) (nodes_refs ds) targets };
      rest = record {
        found = f.1;
        count = omega (arith, count);
        means = means.1;
        targets = targets_rest raw numbers (node_refs d) (nodes_refs ds) targets;
      };
    }

pub row : (raw : List RawUnit) (s : MeaningContext ℕ) (i end : ℕ) (numbers : List ℕ) (rows after : List EntryRow) (ds : List (Node ℕ)) → i < end → AreRowsMeant raw s i end numbers rows after ds
    → NextRow raw s i end numbers rows after ds
row raw s i end numbers rows after ds lt h = next_row raw s i end numbers rows after ds lt h.found h.count h.means h.targets

no_row_in : (s : MeaningContext ℕ) (i end : ℕ) (rows : List EntryRow) (ds : List (Node ℕ)) → end ≤ i → i + length rows ≡ end → RowsMean s rows ds → (rows ≡ []) × (ds ≡ [])
no_row_in s i end [] [] le count means = (refl, refl)
no_row_in s i end [] (d ∷ ds) le count means = absurd means
no_row_in s i end (row ∷ rows) ds le count means = absurd (omega (arith, le, count))

pub no_row : (raw : List RawUnit) (s : MeaningContext ℕ) (i end : ℕ) (numbers : List ℕ) (rows after : List EntryRow) (ds : List (Node ℕ)) → end ≤ i → AreRowsMeant raw s i end numbers rows after ds
    → (rows ≡ []) × (ds ≡ [])
no_row raw s i end numbers rows after ds le h = no_row_in s i end rows ds le h.count h.means

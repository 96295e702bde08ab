-- Entries one after the other: what is noted of their values, and what is left.
use Rattle.std.proofs.Common.{◌≡◌, ◌≢◌, ℕ, ◌+◌, ◌<◌, ◌≤◌, List, [], ◌∷◌, ◌++◌, drop, length, map, Option, Some, Ok, slice_get, refl, sym, ap, ◌∙◌, arith, eqb}
use Rattle.std.proofs.lemmas.Bool.{cond-false, cond-true, eq-eqb, ne_eqb}
use Rattle.std.proofs.lemmas.List.{append_assoc, drop_all, map-append}
use Rattle.dwz_def_reading.specs.Reading.{◌>>=◌}
use Rattle.dwz_def_reading.specs.Entries.{RawAttr}
use Rattle.dwz_def_reading.proofs.PartLemmas.{bind_ok}
use Rattle.dwz_def_reading.proofs.ListFacts.{drop_first, drop_here}
use Rattle.dwz_graph.specs.Rows.{RowsMean, node_refs, nodes_refs}
use Rattle.dwz_graph.proofs.TreeLemmas.{node_attrs}
use Rattle.dwz_def_reading.specs.Documents.{Attr, Node, Value}
use Rattle.dwz_def_reading.specs.Meanings.{MeaningContext, without_siblings}
use Rattle.dwz_def_reading.specs.Meant.{attr_with, attrs_meaning, meaning, node_meaning, with_attr}
use Rattle.dwz_encode_operands.specs.First.{first_over, first_of_two}
use Rattle.dwz_encode_operands.specs.Narrow.{number_by}
use Rattle.dwz_encode_operands.specs.Walked.{NotesOperands, row_operands, rows_operands}
use Rattle.dwz_encode_operands.proofs.FirstLemmas.{Noted, noted_end, noted_some, units_append}
use Rattle.dwz_def_output.specs.Refusals.{all_of_unit, operands_of_attr, operands_of_attrs}
use Rattle.dwz_graph.specs.Named.{attrs_refs, value_refs}
use Rattle.dwz_unit.specs.Rows.{EntryRow}

module _ (s : MeaningContext ℕ) (after : ℕ → ℕ) (more : List ℕ) (old : Option ℕ) where
  -- ---- the values of an entry

  -- those that are left mean attributes, and their targets are left
  pub record ValuesLeft (values : List RawAttr) (j : ℕ) (now : Option ℕ) (left : List ℕ) : Type 0 where
    pub attrs : List (Attr ℕ)
    pub means : attrs_meaning s (without_siblings (drop j values)) ≡ Ok attrs
    pub targets : left ≡ map after (attrs_refs attrs) ++ more
    pub noted : Noted (number_by after) old (all_of_unit s.unit (operands_of_attrs s (without_siblings values))) now (all_of_unit s.unit (operands_of_attrs s (without_siblings (drop j values))))

  pub values_all : (row : EntryRow) (d : Node ℕ) (targets : List ℕ) → node_meaning s row.entry ≡ Ok d → targets ≡ map after (node_refs d) ++ more → ValuesLeft row.entry.attrs 0 old targets
  values_all row d targets means are = record { attrs = d.attrs; means = (node_attrs s row.entry d means).0; targets = are; noted = refl }

  module _ (values : List RawAttr) (j : ℕ) (a : RawAttr) (now : Option ℕ) (left : List ℕ) (is : slice_get values j ≡ Some a) (h : ValuesLeft values j now left) where
    split : drop j values ≡ a ∷ drop (j + 1) values
    split = drop_here values j a is

    pub values_sibling : a.pair.name ≡ 1 → ValuesLeft values (j + 1) now left
    unfolding without_siblings
    values_sibling e =
        let rest = drop (j + 1) values in
        let same : without_siblings (drop j values) ≡ without_siblings rest = ap without_siblings split ∙ cond-true (eqb a.pair.name 1) (without_siblings rest) (a ∷ without_siblings rest)
        (eq-eqb a.pair.name 1 e) in
        record {
          attrs = h.attrs;
          means = ap (attrs_meaning s) (sym same) ∙ h.means;
          targets = h.targets;
          noted = h.noted ∙ ap (λ (w : List RawAttr). first_of_two now (first_over (number_by after) (all_of_unit s.unit (operands_of_attrs s w)))) same;
        }

    pub values_more : a.pair.name ≢ 1 → (new : Option ℕ) (rest_left : List ℕ)
        → ((v : Value ℕ) (others : List ℕ) → meaning s a ≡ Ok v → left ≡ map after (value_refs v) ++ others → NotesOperands after s.unit (operands_of_attr s a) now new others rest_left)
        → ValuesLeft values (j + 1) new rest_left
    unfolding without_siblings attrs_meaning operands_of_attrs
    values_more ne new rest_left notes =
        let rest = drop (j + 1) values in
        let same : without_siblings (drop j values) ≡ a ∷ without_siblings rest = ap without_siblings split ∙ cond-false (eqb a.pair.name 1) (without_siblings rest) (a ∷ without_siblings rest)
        (ne_eqb a.pair.name 1 ne) in
        let m = ap (attrs_meaning s) (sym same) ∙ h.means in
        let x = bind_ok (meaning s a) (λ v. attrs_meaning s (without_siblings rest) >>= with_attr a v) h.attrs m in
        let y = bind_ok (attrs_meaning s (without_siblings rest)) (with_attr a x.0) h.attrs x.2 in
        let made : attr_with a x.0 ∷ y.0 ≡ h.attrs = cc in
        let targets : left ≡ map after (value_refs x.0) ++ (map after (attrs_refs y.0) ++ more) =
        h.targets ∙ ap (λ (w : List (Attr ℕ)). map after (attrs_refs w) ++ more) (sym made) ∙ ap (λ (w : List ℕ). w ++ more) (map-append after (value_refs x.0) (attrs_refs y.0))
        ∙ append_assoc (map after (value_refs x.0)) (map after (attrs_refs y.0)) more in
        let n = notes x.0 (map after (attrs_refs y.0) ++ more) x.1 targets in
        let own = operands_of_attr s a in
        let others = operands_of_attrs s (without_siblings rest) in
        record {
          attrs = y.0;
          means = y.1;
          targets = n.behind;
          noted = noted_some (number_by after) (all_of_unit s.unit (operands_of_attrs s (without_siblings values))) (all_of_unit s.unit (operands_of_attrs s (without_siblings (drop j values))))
              (all_of_unit s.unit own) (all_of_unit s.unit others)
              old now new (ap (λ (w : List RawAttr). all_of_unit s.unit (operands_of_attrs s w)) same ∙ units_append s.unit own others) n.first h.noted;
        }

  pub values_end : (row : EntryRow) (j : ℕ) (now : Option ℕ) (left : List ℕ) → length row.entry.attrs ≤ j → ValuesLeft row.entry.attrs j now left
      → NotesOperands after s.unit (row_operands s row) old now more left
  unfolding without_siblings attrs_meaning operands_of_attrs
  values_end row j now left le h =
      let none : drop j row.entry.attrs ≡ [] = drop_all j row.entry.attrs le in
      let e = ap (λ (w : List RawAttr). attrs_meaning s (without_siblings w)) (sym none) ∙ h.means in
      let empty : [] ≡ h.attrs = cc in
      record {
        first = noted_end (number_by after) (all_of_unit s.unit (row_operands s row)) (all_of_unit s.unit (operands_of_attrs s (without_siblings (drop j row.entry.attrs)))) old now
            (ap (λ (w : List RawAttr). all_of_unit s.unit (operands_of_attrs s (without_siblings w))) none) h.noted;
        behind = h.targets ∙ ap (λ (w : List (Attr ℕ)). map after (attrs_refs w) ++ more) (sym empty);
      }

  -- ---- entries

  pub record RowsLeft (all : List EntryRow) (first_rows : List EntryRow) (i end : ℕ) (now : Option ℕ) (left : List ℕ) : Type 0 where
    pub rows : List EntryRow
    pub after_them : List EntryRow
    pub ds : List (Node ℕ)
    pub found : drop i all ≡ rows ++ after_them
    pub count : i + length rows ≡ end
    pub means : RowsMean s rows ds
    pub targets : left ≡ map after (nodes_refs ds) ++ more
    pub noted : Noted (number_by after) old (all_of_unit s.unit (rows_operands s first_rows)) now (all_of_unit s.unit (rows_operands s rows))

  pub rows_all : (all rows after_them : List EntryRow) (from end : ℕ) (ds : List (Node ℕ)) (targets : List ℕ) → drop from all ≡ rows ++ after_them → from + length rows ≡ end → RowsMean s rows ds
      → targets ≡ map after (nodes_refs ds) ++ more → RowsLeft all rows from end old targets
  rows_all all rows after_them from end ds targets found count means are =
      record { rows = rows; after_them = after_them; ds = ds; found = found; count = count; means = means; targets = are; noted = refl }

  rows_step : (all first_rows rows after_them : List EntryRow) (i end : ℕ) (ds : List (Node ℕ)) (now new : Option ℕ) (left rest_left : List ℕ) → i < end → drop i all ≡ rows ++ after_them
      → i + length rows ≡ end → RowsMean s rows ds
      → left ≡ map after (nodes_refs ds) ++ more → Noted (number_by after) old (all_of_unit s.unit (rows_operands s first_rows)) now (all_of_unit s.unit (rows_operands s rows))
      → ((row : EntryRow) (d : Node ℕ) (others : List ℕ) → slice_get all i ≡ Some row → node_meaning s row.entry ≡ Ok d → left ≡ map after (node_refs d) ++ others
      → NotesOperands after s.unit (row_operands s row) now new others rest_left)
      → RowsLeft all first_rows (i + 1) end new rest_left
  rows_step all first_rows [] after_them i end ds now new left rest_left lt found count means are noted notes = absurd (omega (arith, lt, count))
  rows_step all first_rows (row ∷ rows) after_them i end [] now new left rest_left lt found count means are noted notes = absurd means
  rows_step all first_rows (row ∷ rows) after_them i end (d ∷ ds) now new left rest_left lt found count means are noted notes =
      let f = drop_first all i row (rows ++ after_them) found in
      let targets : left ≡ map after (node_refs d) ++ (map after (nodes_refs ds) ++ more) =
      are ∙ ap (λ (w : List ℕ). w ++ more) (map-append after (node_refs d) (nodes_refs ds)) ∙ append_assoc (map after (node_refs d)) (map after (nodes_refs ds)) more in
      let n = notes row d (map after (nodes_refs ds) ++ more) f.0 means.0 targets in
      record {
        rows = rows;
        after_them = after_them;
        ds = ds;
        found = f.1;
        count = omega (arith, count);
        means = means.1;
        targets = n.behind;
        noted = noted_some (number_by after) (all_of_unit s.unit (rows_operands s first_rows)) (all_of_unit s.unit (rows_operands s (row ∷ rows))) (all_of_unit s.unit (row_operands s row))
            (all_of_unit s.unit (rows_operands s rows))
            old now new (units_append s.unit (row_operands s row) (rows_operands s rows)) n.first noted;
      }

  pub rows_more : (all first_rows : List EntryRow) (i end : ℕ) (now new : Option ℕ) (left rest_left : List ℕ) → i < end → RowsLeft all first_rows i end now left
      → ((row : EntryRow) (d : Node ℕ) (others : List ℕ) → slice_get all i ≡ Some row → node_meaning s row.entry ≡ Ok d → left ≡ map after (node_refs d) ++ others
      → NotesOperands after s.unit (row_operands s row) now new others rest_left)
      → RowsLeft all first_rows (i + 1) end new rest_left
  rows_more all first_rows i end now new left rest_left lt h notes = rows_step all first_rows h.rows h.after_them i end h.ds now new left rest_left lt h.found h.count h.means h.targets h.noted notes

  ends_at : (first_rows rows : List EntryRow) (i end : ℕ) (ds : List (Node ℕ)) (now : Option ℕ) (left : List ℕ) → end ≤ i → i + length rows ≡ end → RowsMean s rows ds
      → left ≡ map after (nodes_refs ds) ++ more → Noted (number_by after) old (all_of_unit s.unit (rows_operands s first_rows)) now (all_of_unit s.unit (rows_operands s rows))
      → NotesOperands after s.unit (rows_operands s first_rows) old now more left
  ends_at first_rows [] i end [] now left le count means are noted =
      record { first = noted_end (number_by after) (all_of_unit s.unit (rows_operands s first_rows)) [] old now refl noted; behind = are }
  ends_at first_rows [] i end (d ∷ ds) now left le count means are noted = absurd means
  ends_at first_rows (row ∷ rows) i end ds now left le count means are noted = absurd (omega (arith, le, count))

  pub rows_end : (all first_rows : List EntryRow) (i end : ℕ) (now : Option ℕ) (left : List ℕ) → end ≤ i → RowsLeft all first_rows i end now left
      → NotesOperands after s.unit (rows_operands s first_rows) old now more left
  rows_end all first_rows i end now left le h = ends_at first_rows h.rows i end h.ds now left le h.count h.means h.targets h.noted

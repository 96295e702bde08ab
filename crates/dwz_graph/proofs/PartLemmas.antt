-- The numbers of what a row names are its part; those behind it begin where the next part does.
use Rattle.std.proofs.Common.{◌≡◌, ℕ, zero, suc, ◌+◌, ◌-◌, ◌<◌, List, [], ◌∷◌, ◌++◌, length, take, drop, Some, slice_get, refl, sym, ap, subst, ◌∙◌, arith}
use Rattle.std.specs.Prelude.{slice_index}
use Rattle.std.proofs.lemmas.List.{append-nil, drop-drop, length-drop, length-map, length-take}
use Rattle.dwz_def_reading.specs.Trees.{End, Entry, Forest, Position, behind, first_below}
use Rattle.dwz_def_reading.specs.Entries.{RawEntry}
use Rattle.dwz_def_reading.specs.Units.{RawUnit, entries_in}
use Rattle.dwz_def_reading.proofs.ListFacts.{drop_first}
use Rattle.dwz_graph.specs.Rows.{AreRowsMeant, AreTargets, RowsMean, node_refs, nodes_refs}
use Rattle.dwz_graph.proofs.NameLemmas.{places_target}
use Rattle.dwz_def_reading.specs.Documents.{Node}
use Rattle.dwz_def_reading.specs.Meanings.{Around, scope_of}
use Rattle.dwz_model.proofs.Members.{each_append}
use Rattle.dwz_unit.proofs.RowsFound.{rows-length}
use Rattle.dwz_graph_resolve.proofs.SurroundingLemmas.{entries_drop, entries_take, own_places}
use Rattle.dwz_graph_resolve.specs.Parts.{AreParted}
use Rattle.dwz_graph_resolve.specs.Resolved.{AreEntries}
use Rattle.dwz_graph_resolve.specs.Surroundings.{place_among}
use Rattle.dwz_def_reading.specs.Lists.{Each}
use Rattle.dwz_unit.specs.Rows.{EntryRow, rows_below, rows_of}

-- ---- one part, and what is behind it

-- a list is its front and what is behind that
targets_append : (raw : List RawUnit) (numbers xs ys : List ℕ) → AreTargets raw numbers xs → AreTargets raw (drop (length xs) numbers) ys → AreTargets raw numbers (xs ++ ys)
targets_append raw numbers [] ys h k = k
targets_append raw [] (x ∷ xs) ys h k = absurd h
targets_append raw (i ∷ numbers) (x ∷ xs) ys h k = (h.0, h.1, targets_append raw numbers xs ys h.2 k)

-- the numbers begin with as many as there are places
targets_more : (raw : List RawUnit) (k : ℕ) (numbers ps : List ℕ) → AreTargets raw (take k numbers) ps → AreTargets raw numbers ps
targets_more raw k numbers [] h = tt
targets_more raw zero numbers (p ∷ ps) h = absurd h
targets_more raw (suc k) [] (p ∷ ps) h = absurd h
targets_more raw (suc k) (i ∷ numbers) (p ∷ ps) h = (h.0, h.1, targets_more raw k numbers ps h.2)

module _ (around : Around ℕ) (raw : List RawUnit) (refs starts : List ℕ) (parted : AreParted around raw (entries_in raw) refs starts) (low : AreEntries raw refs) (n : ℕ) (u : RawUnit)
    (is_unit : slice_get raw n ≡ Some u) where
  parts_targets : (i : ℕ) (rows after : List EntryRow) (ds : List (Node ℕ)) → Each (λ row. row.unit ≡ n) rows → drop i (rows_of raw) ≡ rows ++ after → RowsMean (scope_of around u) rows ds
      → AreTargets raw (drop (slice_index starts i) refs) (nodes_refs ds)
  parts_targets i [] after [] own found means = tt
  parts_targets i [] after (d ∷ ds) own found means = absurd means
  parts_targets i (row ∷ rows) after [] own found means = absurd means
  parts_targets i (row ∷ rows) after (d ∷ ds) own found means =
      let f = drop_first (rows_of raw) i row (rows ++ after) found in
      let within : i < entries_in raw = below (rows_of raw) i row f.0 (rows-length raw) in
      let a = slice_index starts i in
      let b = slice_index starts (i + 1) in
      let rise = parted.rise i within in
      let ordered = rise.0 in
      let upto = rise.1 in
      let part = parted.part i row u d within f.0 (ap (λ (k : ℕ). slice_get raw k) own.0 ∙ is_unit) means.0 in
      let many : length (node_refs d) ≡ b - a = (let e = ap length part in omega (
        arith,
        e,
        length-map (take (b - a) (drop a refs)) (place_among around.common raw),
        length-take (b - a) (drop a refs),
        length-drop a refs,
        ordered,
        upto,
      )) in
      let own_refs = entries_take raw (b - a) (drop a refs) (entries_drop raw a refs low) in
      let first = targets_more raw (b - a) (drop a refs) (node_refs d)
      (places_target raw (take (b - a) (drop a refs)) (node_refs d) [] own_refs (sym (own_places around.common raw (take (b - a) (drop a refs)) own_refs) ∙ part ∙ sym (append-nil (node_refs d)))) in
      let behind_it : drop (length (node_refs d)) (drop a refs) ≡ drop b refs = ap (λ (k : ℕ). drop k (drop a refs)) many ∙ drop-drop (b - a) a refs
      ∙ ap (λ (k : ℕ). drop k refs) (let z : a + (b - a) ≡ b = omega (arith, ordered) in z) in
      targets_append raw (drop a refs) (node_refs d) (nodes_refs ds) first
      (subst (λ (w : List ℕ). AreTargets raw w (nodes_refs ds)) (sym behind_it) (parts_targets (i + 1) rows after ds own.1 f.1 means.1))
    where
      below : {X : Type 0} (xs : List X) (j : ℕ) (x : X) {m : ℕ} → slice_get xs j ≡ Some x → length xs ≡ m → j < m
      below [] j x e l = absurd cc
      below (y ∷ xs) zero x e l = omega (arith, l)
      below (y ∷ xs) (suc j) x e l = let r = below xs j x e refl in omega (arith, r, l)

  pub part_meant : (i end : ℕ) (rows after : List EntryRow) (ds : List (Node ℕ)) → Each (λ row. row.unit ≡ n) rows → drop i (rows_of raw) ≡ rows ++ after → i + length rows ≡ end
      → RowsMean (scope_of around u) rows ds → AreRowsMeant raw (scope_of around u) i end (drop (slice_index starts i) refs) rows after ds
  part_meant i end rows after ds own found count means = record { found = found; count = count; means = means; targets = parts_targets i rows after ds own found means }

-- ---- rows of one unit

pub rows_unit : (f : Forest RawEntry) (unit : ℕ) (p : Position) → Each (λ row. row.unit ≡ unit) (rows_below f unit p)
unfolding rows_below
rows_unit End unit p = tt
rows_unit (Entry e c n) unit p = (
  refl,
  each_append (λ row. row.unit ≡ unit) (rows_below c unit (first_below p)) (rows_below n unit (behind p c)) (rows_unit c unit (first_below p))
      (rows_unit n unit (behind p c)),
)

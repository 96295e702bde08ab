-- What is put of the nodes of a file: of its tops, and of its roots and spaces.
use Rattle.std.proofs.Common.{◌≡◌, ◌<◌, ℕ, ◌+◌, Bool, false, All, List, [], ◌∷◌, ◌++◌, length, map, get_or, Some, slice_get, refl, sym, ap, subst, ◌∙◌, arith}
use Rattle.std.specs.Prelude.{not, slice_index_or}
use Rattle.std.proofs.lemmas.List.{append-nil, length-map, map-append}
use Rattle.std.proofs.lemmas.Option.{slice_get-get_or}
use Rattle.dwz_model.proofs.ListFacts.{got_below, got_index_or, got_map, got_there}
use Rattle.dwz_def_reading.specs.Documents.{DwUnit, Entries, Node}
use Rattle.dwz_def_reading.specs.Trees.{End, Entry}
use Rattle.dwz_def_cross.specs.Tops.{CrossTop}
use Rattle.dwz_def_check.specs.CrossNames.{cross_names_from, cross_tops}
use Rattle.dwz_def_check.specs.CrossNodes.{lone_entries}
use Rattle.dwz_unit.proofs.RowsFound.{found_in_map, rows-length}
use Rattle.dwz_graph.specs.Rows.{nodes}
use Rattle.dwz_unit.specs.Rows.{rows_of, units_of}
use Rattle.dwz_imports.specs.Imports.{imports_any, unit_nodes}
use Rattle.dwz_check_index.specs.Index.{Called, IsTopEntry, ListedEntry, listed, listed_units, names_in}
use Rattle.dwz_check_index.specs.declared.index.CrossStarts.{CrossStarts}
use Rattle.dwz_check_index.specs.declared.index.TopEntry.{TopEntry}
use Rattle.dwz_check_sides.specs.declared.lists.NameLists.{NameLists}
use Rattle.dwz_check_sides.specs.declared.side.Side.{Side}
use Rattle.dwz_check_sides.specs.Names.{HaveListNumbers, IsListNumber}
use Rattle.dwz_check_sides.specs.Says.{IsSide}
use Rattle.dwz_check_sides.proofs.NameTexts.{row, row_found, steps_long}
use Rattle.dwz_check_columns.specs.Drawn.{lone_lists, top_lists}
use Rattle.dwz_check_columns.specs.Puts.{PutsLists, PutsLone}
use Rattle.dwz_check_columns.proofs.LoneNames.{lists_long, lone_names}
use Rattle.dwz_check_columns.proofs.EachTwos.{map_two, two_of}

-- ---- entries in preorder

nodes_in : (f : Entries ℕ) → nodes f ≡ map (λ (d : ListedEntry ℕ). d.0) (listed f)
unfolding nodes listed
nodes_in End = refl
nodes_in (Entry e c n) =
    ap (λ (w : List (Node ℕ)). e ∷ w) ((λ i. nodes_in c i ++ nodes_in n i) ∙ sym (map-append (λ (d : ListedEntry ℕ). d.0) (listed c) (listed n)))

-- the entries of units are those that are listed, without what is below them
pub nodes_listed : (said : List (DwUnit ℕ)) → unit_nodes said ≡ map (λ (d : ListedEntry ℕ). d.0) (listed_units said)
unfolding unit_nodes listed_units nodes
nodes_listed [] = refl
nodes_listed (u ∷ said) =
    ap (λ (w : List (Node ℕ)). u.root ∷ w) (
    ap (λ (w : List (Node ℕ)). w ++ unit_nodes said) (append-nil (nodes u.below))
    ∙ (λ i. nodes_in u.below i ++ nodes_listed said i)
    ∙ sym (map-append (λ (d : ListedEntry ℕ). d.0) (listed u.below) (listed_units said)))

-- ---- one file

abbrev outer_number : List ℕ → TopEntry → ℕ
outer_number numbers t = get_or numbers t.outer 0

module _ (s : Side) (said : List (DwUnit ℕ)) (starts : CrossStarts) (side : IsSide s said starts) where
  abbrev names : List Called
  names = cross_names_from 0 starts.top said

  top_there : (k : ℕ) (x : TopEntry) → slice_get s.index.now.tops k ≡ Some x → (t : CrossTop ℕ) × (slice_get (cross_tops said) k ≡ Some t)
      × IsTopEntry said names (listed_units said) (starts.top + k) x t
  top_there k x got =
      let low = got_below s.index.now.tops k x got in
      let many = side.index_is.tops.len in
      let t = got_there (cross_tops said) k (omega (arith, low, many)) in
      (t.0, t.1, side.index_is.tops.each k x t.0 got t.1)

  -- what tops, roots and spaces lead to are entries
  pub outers_low : (count : ℕ) → count ≡ length s.index.now.steps → All (λ (t : TopEntry). t.outer < count) s.index.now.tops
  outers_low count same k d low =
      let t = top_there k (get_or s.index.now.tops k d) (slice_get-get_or s.index.now.tops k d low) in
      let within = got_below names _ _ t.2.outer_is.1 in
      let many = side.index_is.names.len in
      omega (arith, within, many, same)

  pub entries_low : (count : ℕ) → count ≡ length s.index.now.steps → All (λ (t : TopEntry). t.entry < count) s.index.now.tops
  entries_low count same k d low =
      let t = top_there k (get_or s.index.now.tops k d) (slice_get-get_or s.index.now.tops k d low) in
      let within = got_below names _ _ t.2.name.1 in
      let many = side.index_is.names.len in
      omega (arith, within, many, same)

  lone_there : (k i : ℕ) → slice_get s.index.now.lone k ≡ Some i → i < length s.index.now.steps
  lone_there k i got =
      let low = got_below s.index.now.lone k i got in
      let many = side.index_is.lone.len in
      let d = got_there (lone_entries said) k (omega (arith, low, many)) in
      let e = side.index_is.lone.each k i d.0 got d.1 in
      let found = row_found s said starts side i (d.0, e.0) e.1 in
      let within = got_below (rows_of (units_of s.file.now.units)) i (row s said starts side i (d.0, e.0) e.1) found in
      let all = rows-length (units_of s.file.now.units) in
      let long = steps_long s said starts side in
      omega (arith, within, all, long)

  pub lone_low : (count : ℕ) → count ≡ length s.index.now.steps → All (λ (i : ℕ). i < count) s.index.now.lone
  lone_low count same k d low =
      let i = lone_there k (get_or s.index.now.lone k d) (slice_get-get_or s.index.now.lone k d low) in
      omega (arith, i, same)

  -- ---- numbers of name lists

  module _ (known : NameLists) (numbers : List ℕ) (many : length numbers ≡ length s.index.now.steps) (have : HaveListNumbers known names numbers) where
    number_of : (i : ℕ) (x : Called) → slice_get names i ≡ Some x → IsListNumber known (names_in x.1) (get_or numbers i 0)
    number_of i x is =
        let low = got_below names i x is in
        let long = side.index_is.names.len in
        have i (get_or numbers i 0) x (slice_get-get_or numbers i 0 (omega (arith, low, long, many))) is

    tops_two : (k : ℕ) (list : List (List ℕ)) (n : ℕ) → slice_get (top_lists said) k ≡ Some list → slice_get (map (outer_number numbers) s.index.now.tops) k ≡ Some n → IsListNumber known list n
    tops_two k list n a b =
        let t = found_in_map (λ (t : CrossTop ℕ). t.names) (cross_tops said) k list a in
        let x = found_in_map (outer_number numbers) s.index.now.tops k n b in
        let e = side.index_is.tops.each k x.0 t.0 x.1 t.1 in
        let is = number_of x.0.outer (e.outer_is.0, e.outer) e.outer_is.1 in
        subst (λ (m : ℕ). IsListNumber known list m) x.2 (subst (λ (w : List (List ℕ)). IsListNumber known w (outer_number numbers x.0)) (e.names_are ∙ t.2) is)

    pub tops_put : (old new : List ℕ) → new ≡ old ++ map (outer_number numbers) s.index.now.tops → PutsLists known (top_lists said) old new
    tops_put old new put =
        let len = side.index_is.tops.len in
        let a = length-map (cross_tops said) (λ (t : CrossTop ℕ). t.names) in
        let b = length-map s.index.now.tops (outer_number numbers) in
        (map (outer_number numbers) s.index.now.tops, put, two_of (IsListNumber known) (top_lists said) (map (outer_number numbers) s.index.now.tops) (omega (arith, len, a, b)) tops_two)

    pub lone_put : (old new : List ℕ) → new ≡ old ++ map (λ (i : ℕ). get_or numbers i 0) s.index.now.lone → PutsLone known said old new
    lone_put old new put =
        let f : ℕ → ℕ = λ i. get_or numbers i 0 in
        let len = side.index_is.lone.len in
        let a = lists_long said in
        let b = length-map s.index.now.lone f in
        record {
          put = map f s.index.now.lone;
          new_are = put;
          many = omega (arith, len, b);
          are = λ once. two_of (IsListNumber known) (lone_lists said) (map f s.index.now.lone) (omega (arith, len, a, b)) (λ k list n got is. (
              let i = found_in_map f s.index.now.lone k n is in
              let low = lone_there k i.0 i.1 in
              let long = side.index_is.names.len in
              let x = got_there names i.0 (omega (arith, low, long)) in
              let same = lone_names starts said s.index.now side.index_is once k i.0 list x.0 i.1 got x.1 in
              subst (λ (m : ℕ). IsListNumber known list m) i.2 (subst (λ (w : List (List ℕ)). IsListNumber known w (f i.0)) same (number_of i.0 x.0 x.1))));
        }

  -- ---- flags

  pub plain_put : (units : List (DwUnit ℕ)) (flags : List Bool) (old new : List Bool) → flags ≡ map (imports_any units) (unit_nodes said)
      → new ≡ old ++ map (λ (t : TopEntry). not (slice_index_or flags t.entry false)) s.index.now.tops
      → new ≡ old ++ map (λ (t : CrossTop ℕ). not (imports_any units t.node)) (cross_tops said)
  plain_put units flags old new are put =
      put ∙ ap (λ (w : List Bool). old ++ w) (
      map_two (λ (t : TopEntry). not (slice_index_or flags t.entry false)) (λ (t : CrossTop ℕ). not (imports_any units t.node)) s.index.now.tops (cross_tops said) side.index_is.tops.len (λ k x t got is. (
      let e = side.index_is.tops.each k x t got is in
      let node : slice_get (unit_nodes said) x.entry ≡ Some t.node =
      ap (λ (w : List (Node ℕ)). slice_get w x.entry) (nodes_listed said) ∙ got_map (λ (d : ListedEntry ℕ). d.0) (listed_units said) x.entry (t.node, t.below) e.found in
      let flag : slice_get flags x.entry ≡ Some (imports_any units t.node) =
      ap (λ (w : List Bool). slice_get w x.entry) are ∙ got_map (imports_any units) (unit_nodes said) x.entry t.node node in
      ap not (got_index_or flags x.entry (imports_any units t.node) false flag))))

-- What entries of units import, row by row and in documents.
use Rattle.std.proofs.Common.{◌≡◌, ℕ, suc, ◌+◌, ◌<◌, ◌^◌, ◌==◌, Bool, true, false, List, [], ◌∷◌, ◌++◌, map, length, Some, slice_get, refl, sym, ap, ◌∙◌, inl, inr, arith}
use Rattle.std.proofs.Common.{eq-eqb, if◌then◌else◌}
use Rattle.std.specs.List.{flat_map}
use Rattle.std.proofs.lemmas.List.{append-nil, map-append}
use Rattle.std.proofs.lemmas.List.Concat.{flat_map-append}
use Rattle.dwz_model.specs.Lists.{In}
use Rattle.dwz_def_reading.specs.Documents.{DwUnit, Entries, Node, unit_map}
use Rattle.dwz_def_reading.specs.Entries.{RawEntry, root_position}
use Rattle.dwz_def_reading.specs.Meanings.{Around, Common, MeanEntries, MeanUnits, MeaningContext, MeansNode, scope_of}
use Rattle.dwz_def_reading.specs.Trees.{End, Entry, Forest, Position, behind, first_below}
use Rattle.dwz_def_reading.specs.Units.{RawUnit, entry_count}
use Rattle.dwz_def_expand.specs.Source.{imported_by, imported_in}
use Rattle.dwz_graph.specs.Rows.{nodes}
use Rattle.dwz_graph.specs.Surroundings.{behind_own}
use Rattle.dwz_groups.specs.declared.groups.Edge.{Edge}
use Rattle.dwz_unit.specs.Rows.{EntryRow, rows_below, rows_from, rows_in}
use Rattle.dwz_imports.specs.Imports.{AreUnits, imports_any, same, unit_nodes}
use Rattle.dwz_imports.specs.Stored.{edge, edges_of, entry_parts, is_some_number, parts_in, row_edges, row_imports, row_parts, unit_place}
use Rattle.dwz_imports.proofs.Grouped.{not_equal}
use Rattle.dwz_imports.proofs.PartLists.{RootsLow, entry_units, units_append, units_some}

module _ (own common : List RawUnit) where
  abbrev of_row : EntryRow → List Edge
  of_row row = row_edges own common row

  if_not : (b : Bool) (xs : List Edge) → b ≡ false → (if b then xs else []) ≡ []
  if_not true xs e = absurd cc
  if_not false xs e = refl

  if_so : (b : Bool) (xs : List Edge) → b ≡ true → (if b then xs else []) ≡ xs
  if_so true xs e = refl
  if_so false xs e = absurd cc

  -- ---- edges, row by row

  deep_none : (f : Forest RawEntry) (unit : ℕ) (p : Position) → 2 < p.depth → flat_map of_row (rows_below f unit p) ≡ []
  unfolding rows_below
  deep_none End unit p l = refl
  deep_none (Entry e c n) unit p l =
      let row : EntryRow = record { entry = e; unit = unit; depth = p.depth; end = (behind p c).before } in
      (λ i. if_not (p.depth == 2) (map (edge unit) (row_parts own common row)) (not_equal p.depth 2 (λ x. omega (arith, x, l))) i
      ++ flat_map of_row (rows_below c unit (first_below p) ++ rows_below n unit (behind p c)))
      ∙ flat_map-append of_row (rows_below c unit (first_below p)) (rows_below n unit (behind p c))
      ∙ (λ i. deep_none c unit (first_below p) (omega (arith, l)) i ++ deep_none n unit (behind p c) l i)

  level : (f : Forest RawEntry) (unit : ℕ) (p : Position) → p.depth ≡ 2 → flat_map of_row (rows_below f unit p) ≡ map (edge unit) (parts_in own common (unit_place own unit) f)
  unfolding rows_below parts_in
  level End unit p d = refl
  level (Entry e c n) unit p d =
      let row : EntryRow = record { entry = e; unit = unit; depth = p.depth; end = (behind p c).before } in
      let here = map (edge unit) (row_parts own common row) in
      (λ i. if_so (p.depth == 2) here (eq-eqb p.depth 2 d) i ++ flat_map of_row (rows_below c unit (first_below p) ++ rows_below n unit (behind p c)))
      ∙ ap (λ (w : List Edge). here ++ w) (flat_map-append of_row (rows_below c unit (first_below p)) (rows_below n unit (behind p c))
      ∙ (λ i. deep_none c unit (first_below p) (omega (arith, d)) i ++ level n unit (behind p c) d i))
      ∙ sym (map-append (edge unit) (row_parts own common row) (parts_in own common (unit_place own unit) n))

  unit_edges : (u : RawUnit) (unit before : ℕ) → flat_map of_row (rows_in u unit before) ≡ map (edge unit) (parts_in own common (unit_place own unit) u.below)
  unfolding rows_below
  unit_edges u unit before =
      let p = root_position before in
      flat_map-append of_row (rows_below u.below unit (first_below p)) []
      ∙ append-nil (flat_map of_row (rows_below u.below unit (first_below p)))
      ∙ level u.below unit (first_below p) refl

  abbrev pub import_lists : List RawUnit → List (List ℕ)
  import_lists us = map (λ u. parts_in own common u.at u.below) us

  pub all_edges : (us : List RawUnit) (unit before : ℕ) → ((j : ℕ) (u : RawUnit) → slice_get us j ≡ Some u → unit_place own (unit + j) ≡ u.at) → flat_map of_row
      (rows_from us unit before) ≡ edges_of unit (import_lists us)
  unfolding rows_from edges_of
  all_edges [] unit before at = refl
  all_edges (u ∷ us) unit before at =
      let z : unit + 0 ≡ unit = omega arith in
      let e : unit + 1 ≡ suc unit = omega arith in
      let here : unit_place own unit ≡ u.at = ap (unit_place own) (sym z) ∙ at 0 u refl in
      flat_map-append of_row (rows_in u unit before) (rows_from us (unit + 1) (before + entry_count u))
      ∙ (λ i. (unit_edges u unit before ∙ ap (λ (k : ℕ). map (edge unit) (parts_in own common k u.below)) here) i
      ++ all_edges us (unit + 1) (before + entry_count u) (λ j v is. (let y : unit + 1 + j ≡ unit + suc j = omega arith in ap (unit_place own) y ∙ at (suc j) v is)) i)
      ∙ ap (λ (k : ℕ). map (edge unit) (parts_in own common u.at u.below) ++ edges_of k (import_lists us)) e

  -- ---- in documents

  module _ (around beside : Around ℕ) (at : around.place ≡ (λ n. n)) (beside_at : beside.place ≡ (λ n. n)) (common_place : (c : Common ℕ) → around.common ≡ Some c → c.place ≡ behind_own)
      (vs ws : List (DwUnit ℕ)) (means : MeanUnits around own vs) (common_means : MeanUnits beside common ws) (low : RootsLow own) (many : length own ≡ length vs)
      (all_low : (n : ℕ) → In n around.all → n < 2 ^ 32) where
    abbrev all : List (DwUnit ℕ)
    all = vs ++ map (unit_map behind_own) ws

    module _ (u : RawUnit) (own_low : (n : ℕ) → In n (scope_of around u).own → n < 2 ^ 32) where
      abbrev s : MeaningContext ℕ
      s = scope_of around u

      here : (e : RawEntry) (d : Node ℕ) → MeansNode s e d → AreUnits all (entry_parts own common u.at e) (imported_by same all d)
      here e d m = entry_units s at common_place own_low all_low e d m around beside at beside_at own common vs ws means common_means low many

      pub children_units : (f : Forest RawEntry) (g : Entries ℕ) → MeanEntries s f g → AreUnits all (parts_in own common u.at f) (imported_in same all g)
      unfolding parts_in imported_in
      children_units End End h = tt
      children_units (Entry e c n) (Entry d c' n') h = units_append all (entry_parts own common u.at e) (parts_in own common u.at n) (imported_by same all d) (imported_in same all n') (here e d h.0)
          (children_units n n' h.2)
      children_units _ _ h = absurd h

      rows_import : (unit : ℕ) → unit_place own unit ≡ u.at → (f : Forest RawEntry) (g : Entries ℕ) (p : Position) → MeanEntries s f g
          → map (row_imports own common) (rows_below f unit p) ≡ map (imports_any all) (nodes g)
      unfolding rows_below nodes
      rows_import unit is End End p h = refl
      rows_import unit is (Entry e c n) (Entry d c' n') p h =
          let row : EntryRow = record { entry = e; unit = unit; depth = p.depth; end = (behind p c).before } in
          let one : row_imports own common row ≡ imports_any all d =
          ap (λ (k : ℕ). is_some_number (entry_parts own common k e)) is ∙ units_some all (entry_parts own common u.at e) (imported_by same all d) (here e d h.0) in
          (λ i. one i ∷ map-append (row_imports own common) (rows_below c unit (first_below p)) (rows_below n unit (behind p c)) i)
          ∙ (λ i. imports_any all d ∷ (rows_import unit is c c' (first_below p) h.1 i ++ rows_import unit is n n' (behind p c) h.2 i))
          ∙ ap (λ (w : List Bool). imports_any all d ∷ w) (sym (map-append (imports_any all) (nodes c') (nodes n')))
      rows_import unit is _ _ p h = absurd h

    pub all_import : (us : List RawUnit) (xs : List (DwUnit ℕ)) (unit before : ℕ) → ((u : RawUnit) → In u us → (n : ℕ) → In n (scope_of around u).own → n < 2 ^ 32) → MeanUnits around us xs
        → ((j : ℕ) (u : RawUnit) → slice_get us j ≡ Some u → unit_place own (unit + j) ≡ u.at) → map (row_imports own common) (rows_from us unit before) ≡ map (imports_any all) (unit_nodes xs)
    unfolding rows_from unit_nodes
    all_import [] [] unit before own_low h places = refl
    all_import [] (x ∷ xs) unit before own_low h places = absurd h
    all_import (u ∷ us) [] unit before own_low h places = absurd h
    all_import (u ∷ us) (x ∷ xs) unit before own_low h places =
        let z : unit + 0 ≡ unit = omega arith in
        let is : unit_place own unit ≡ u.at = ap (unit_place own) (sym z) ∙ places 0 u refl in
        map-append (row_imports own common) (rows_in u unit before) (rows_from us (unit + 1) (before + entry_count u))
        ∙ (λ i. rows_import u (own_low u (inl refl)) unit is (Entry u.root u.below End) (Entry x.root x.below End) (root_position before) (h.0.root, h.0.below, tt) i
        ++ all_import us xs (unit + 1) (before + entry_count u) (λ v there. own_low v (inr there)) h.1
        (λ j v e. (let y : unit + 1 + j ≡ unit + suc j = omega arith in ap (unit_place own) y ∙ places (suc j) v e)) i)
        ∙ sym (map-append (imports_any all) (nodes (Entry x.root x.below End)) (unit_nodes xs))

-- Columns that are drawn fit: each list is as long as it must be, and all numbers in them are inside.
use Rattle.std.proofs.Common.{◌≡◌, ℕ, ◌+◌, ◌-◌, ◌<◌, ◌≤◌, ◌^◌, Bool, false, List, [], ◌∷◌, ◌++◌, length, map, replicate, refl, sym, ap, subst, ◌∙◌, inl, inr, arith}
use Rattle.std.specs.Prelude.{not}
use Rattle.std.proofs.lemmas.Bool.{cases_lt}
use Rattle.std.proofs.lemmas.List.{length-append, length-map}
use Rattle.std.proofs.Math.ListN.{length-replicate}
use Rattle.dwz_model.specs.Lists.{Each, In}
use Rattle.dwz_model.proofs.ListFacts.{got_below, got_in, got_index_or, got_there, in_map}
use Rattle.dwz_model.proofs.Members.{each_append, each_of, in_map_from}
use Rattle.dwz_def_reading.specs.Documents.{Compile, DwUnit, Kind, OfType, Partial, unit_map}
use Rattle.dwz_def_tops.specs.Seen.{IsPartial}
use Rattle.dwz_def_cross.specs.Tops.{CrossTop, WithCommon, units_with_common}
use Rattle.dwz_def_check.specs.CrossLabels.{cross_top_map}
use Rattle.dwz_def_check.specs.CrossLists.{NumberedUnit, numbered_units}
use Rattle.dwz_def_check.specs.CrossNames.{IsWellRead, cross_tops, unit_tops}
use Rattle.dwz_def_check.specs.CrossNodes.{lone_entries, lone_of, node_count}
use Rattle.dwz_def_expand.specs.Source.{imported_in, once}
use Rattle.dwz_graph.specs.Surroundings.{behind_own}
use Rattle.dwz_imports.specs.Imports.{AreImportLists, AreUnits, imports_any, same}
use Rattle.dwz_check_index.specs.Both.{with_common}
use Rattle.dwz_check_index.proofs.MapLemmas.{mapped}
use Rattle.dwz_check_rows.specs.declared.columns.Columns.{Columns}
use Rattle.dwz_check_rows.specs.declared.columns.UnitNodes.{UnitNodes}
use Rattle.dwz_check_rows.specs.UnitRows.{AreColumns, IsInside, IsKindInside}
use Rattle.dwz_check_sides.specs.Names.{IsListNumber}
use Rattle.dwz_check_sides.specs.Units.{lone_end, meant_kind, nodes_of, tops_end}
use Rattle.dwz_check_sides.proofs.UnitNodes.{low_of, numbered_long, unit_at as numbered_at}
use Rattle.dwz_check_columns.specs.Drawn.{AreDrawn, IsPathOf, among_all, imports_among, lone_lists, node_lists, plain_nodes, plain_tops, top_lists}
use Rattle.dwz_check_columns.specs.Shows.{beside}
use Rattle.dwz_check_columns.proofs.FileRows.{among_common, among_own}
use Rattle.dwz_check_columns.proofs.LoneNames.{lists_long}
use Rattle.dwz_check_columns.proofs.PlainTops.{behind, partial_from}
use Rattle.dwz_check_columns.proofs.TwoLists.{got_of, two_long}

-- ---- nodes

-- common units have as many tops behind those of another file
pub tops_behind : (units : List (DwUnit ℕ)) → length (cross_tops (behind units)) ≡ length (cross_tops units)
tops_behind units = ap (λ (w : List (CrossTop ℕ)). length w) ((mapped behind_own units).tops) ∙ length-map (cross_tops units) (cross_top_map behind_own)

kind_inside : (before count : ℕ) (y : NumberedUnit ℕ) (k : Kind ℕ) → y.unit.kind ≡ k → tops_end y ≤ count → before + lone_end y ≤ count
    → IsKindInside count y.top (meant_kind (before + y.lone) (before + lone_end y) k)
kind_inside before count y Compile e tops lone = let many = ap (λ (k : Kind ℕ). length (lone_of k y.unit)) e in (omega (arith, many, lone), lone)
kind_inside before count y (OfType signature main) e tops lone = let one = ap (λ (k : Kind ℕ). length (unit_tops k y.unit)) e in omega (arith, one, tops)
kind_inside before count y Partial e tops lone = tt

-- the nodes of own units are among so many, where those of all their tops, roots and spaces are
nodes_inside : (before top count : ℕ) (units : List (DwUnit ℕ)) → top + length (cross_tops units) ≤ count → before + length (lone_entries units) ≤ count
    → Each (IsInside count) (map (nodes_of before) (numbered_units top 0 units))
nodes_inside before top count units tops lone = each_of (IsInside count) (map (nodes_of before) (numbered_units top 0 units)) (λ node is. (
    let o = in_map_from (nodes_of before) node (numbered_units top 0 units) is in
    let n = got_of (numbered_units top 0 units) o.source o.there in
    let low = low_of top 0 units n.0 o.source n.1 in
    let first = low.0 in
    let second = low.1 in
    let end : tops_end o.source ≤ count = omega (arith, first, tops) in
    let inside : IsInside count (nodes_of before o.source) = (end, kind_inside before count o.source o.source.unit.kind refl end (omega (arith, second, lone))) in
    subst (λ (w : UnitNodes). IsInside count w) o.is inside))

part_inside : (count : ℕ) (y : NumberedUnit ℕ) (k : Kind ℕ) → IsPartial k → IsKindInside count y.top (meant_kind (0 + y.lone) (0 + lone_end y) k)
part_inside count y Partial p = tt
part_inside count y Compile p = absurd p
part_inside count y (OfType signature main) p = absurd p

-- those of partial units too, which have tops alone
parts_inside : (top count : ℕ) (units : List (DwUnit ℕ)) → ((u : DwUnit ℕ) → In u units → IsPartial u.kind) → top + length (cross_tops units) ≤ count
    → Each (IsInside count) (map (nodes_of 0) (numbered_units top 0 units))
parts_inside top count units partial tops = each_of (IsInside count) (map (nodes_of 0) (numbered_units top 0 units)) (λ node is. (
    let o = in_map_from (nodes_of 0) node (numbered_units top 0 units) is in
    let n = got_of (numbered_units top 0 units) o.source o.there in
    let first = (low_of top 0 units n.0 o.source n.1).0 in
    let there = got_in units n.0 o.source.unit (numbered_at top 0 units n.0 o.source n.1) in
    let inside : IsInside count (nodes_of 0 o.source) = (omega (arith, first, tops), part_inside count o.source o.source.unit.kind (partial o.source.unit there)) in
    subst (λ (w : UnitNodes). IsInside count w) o.is inside))

-- ---- imports

number_low : (units : List (DwUnit ℕ)) (numbers : List ℕ) (us : List (DwUnit ℕ)) → AreUnits units numbers us → (m : ℕ) → In m numbers → m < length units
number_low units [] [] h m is = absurd is
number_low units (n ∷ numbers) (u ∷ us) h m (inl e) = let low = got_below units n u h.0 in omega (arith, low, e)
number_low units (n ∷ numbers) (u ∷ us) h m (inr r) = number_low units numbers us h.1 m r
number_low units [] (u ∷ us) h m is = absurd h
number_low units (n ∷ numbers) [] h m is = absurd h

among_low : (own first behind more count m : ℕ) → m < own + more → first + own ≤ count → behind + more ≤ count → among_all own first behind m < count
among_low own first behind more count m low a b = elim (cases_lt m own) [
  | inl lt ↦ (let e = among_own own first behind m lt in omega (arith, e, lt, a))
  | inr ge ↦ (let e = among_common own first behind m (m - own) (omega (arith, ge)) in omega (arith, e, ge, low, b))
]

imports_low : (w : WithCommon ℕ) (lists : List (List ℕ)) (first behind count : ℕ) → AreImportLists w lists → first + length w.own ≤ count → behind + length w.common ≤ count
    → Each (Each (λ m. m < count)) (imports_among (length w.own) first behind lists)
imports_low w lists first behind count are a b =
    each_of (Each (λ m. m < count)) (imports_among (length w.own) first behind lists) (λ list is. (
    let o = in_map_from (map (among_all (length w.own) first behind)) list lists is in
    let n = got_of lists o.source o.there in
    let low = got_below lists n.0 o.source n.1 in
    let long = are.len in
    let u = got_there w.own n.0 (omega (arith, low, long)) in
    let numbers = subst (λ (ns : List ℕ). AreUnits (units_with_common w) ns (once same (imported_in same (units_with_common w) u.0.below))) (got_index_or lists n.0 o.source [] n.1)
    (are.each n.0 u.0 u.1) in
    subst (λ (ns : List ℕ). Each (λ m. m < count) ns) o.is
    (each_of (λ m. m < count) (map (among_all (length w.own) first behind) o.source) (λ m there. (
    let p = in_map_from (among_all (length w.own) first behind) m o.source there in
    let below = number_low (units_with_common w) o.source (once same (imported_in same (units_with_common w) u.0.below)) numbers p.source p.there in
    let is_low = among_low (length w.own) first behind (length w.common) count p.source (omega (arith, below, length-append w.own w.common)) a b in
    let is_m = p.is in
    omega (arith, is_low, is_m))))))

-- ---- all of it

module _ (a b c : List (DwUnit ℕ)) (x : Columns) (d : AreDrawn a b c x) where
  lists_many : length (node_lists a b c) ≡ node_count (beside a c) (beside b c)
  lists_many =
      let third = tops_behind c in
      omega (
        arith,
        third,
        length-append (top_lists a ++ top_lists b ++ top_lists c ++ lone_lists a) (lone_lists b),
        length-append (top_lists a ++ top_lists b ++ top_lists c) (lone_lists a),
        length-append (top_lists a ++ top_lists b) (top_lists c),
        length-append (top_lists a) (top_lists b),
        length-map (cross_tops a) (λ t. t.names),
        length-map (cross_tops b) (λ t. t.names),
        length-map (cross_tops c) (λ t. t.names),
        lists_long a,
        lists_long b,
      )

  flags_many : length (plain_nodes a b c) ≡ node_count (beside a c) (beside b c)
  flags_many =
      let third = tops_behind c in
      let none : List Bool = replicate (length (lone_entries a) + length (lone_entries b)) false in
      let common = plain_tops (with_common c []) in
      let second = plain_tops (beside b c) in
      let first = plain_tops (beside a c) in
      omega (
        arith,
        third,
        length-append (first ++ second ++ common) none,
        length-append (first ++ second) common,
        length-append first second,
        length-replicate (length (lone_entries a) + length (lone_entries b)) false,
        length-map (cross_tops a) (λ t. not (imports_any (units_with_common (beside a c)) t.node)),
        length-map (cross_tops b) (λ t. not (imports_any (units_with_common (beside b c)) t.node)),
        length-map (cross_tops c) (λ t. not (imports_any (units_with_common (with_common c [])) t.node)),
      )

  -- there are as many nodes of units as units
  pub units_many : length x.units ≡ length a + length b + length c
  units_many =
      let before = length (cross_tops a) + length (cross_tops b) in
      let lone = before + length (cross_tops c) in
      let first = map (nodes_of lone) (numbered_units 0 0 a) in
      let second = map (nodes_of (lone + length (lone_entries a))) (numbered_units (length (cross_tops a)) 0 b) in
      let third = map (nodes_of 0) (numbered_units before 0 c) in
      let all = ap (λ (w : List UnitNodes). length w) d.units in
      omega (
        arith,
        all,
        length-append (first ++ second) third,
        length-append first second,
        length-map (numbered_units 0 0 a) (nodes_of lone),
        length-map (numbered_units (length (cross_tops a)) 0 b) (nodes_of (lone + length (lone_entries a))),
        length-map (numbered_units before 0 c) (nodes_of 0),
        numbered_long 0 0 a,
        numbered_long (length (cross_tops a)) 0 b,
        numbered_long before 0 c,
      )

  paths_many : length x.paths ≡ length a + length b + length c
  paths_many = let all = two_long (λ u. IsPathOf u u.kind) (a ++ b ++ c) x.paths d.paths in omega (arith, all, length-append (a ++ b) c, length-append a b)

  imports_many : length x.imports ≡ length a + length b + length c
  imports_many =
      let behind_both = length a + length b in
      let first = imports_among (length a) 0 behind_both d.old_lists in
      let second = imports_among (length b) (length a) behind_both d.new_lists in
      let third = imports_among (length c) behind_both behind_both d.common_lists in
      let all = ap (λ (w : List (List ℕ)). length w) d.imports in
      let one = d.old_imports.len in
      let two = d.new_imports.len in
      let three = d.common_imports.len in
      omega (
        arith,
        all,
        one,
        two,
        three,
        length-append (first ++ second) third,
        length-append first second,
        length-map d.old_lists (map (among_all (length a) 0 behind_both)),
        length-map d.new_lists (map (among_all (length b) (length a) behind_both)),
        length-map d.common_lists (map (among_all (length c) behind_both behind_both)),
      )

  module _ (read : IsWellRead (beside a c)) where
    common_partial : (u : DwUnit ℕ) → In u c → IsPartial u.kind
    common_partial u is = partial_from u.kind (read.partial (unit_map behind_own u) (in_map (unit_map behind_own) u c is))

    all_inside : Each (IsInside (node_count (beside a c) (beside b c))) x.units
    all_inside =
        let count = node_count (beside a c) (beside b c) in
        let before = length (cross_tops a) + length (cross_tops b) in
        let lone = before + length (cross_tops c) in
        let third = tops_behind c in
        subst (λ (w : List UnitNodes). Each (IsInside count) w) (sym d.units)
        (each_append (IsInside count)
        (map (nodes_of lone) (numbered_units 0 0 a) ++ map (nodes_of (lone + length (lone_entries a))) (numbered_units (length (cross_tops a)) 0 b)) (map (nodes_of 0) (numbered_units before 0 c))
        (each_append (IsInside count) (map (nodes_of lone) (numbered_units 0 0 a)) (map (nodes_of (lone + length (lone_entries a))) (numbered_units (length (cross_tops a)) 0 b))
        (nodes_inside lone 0 count a (omega (arith, third)) (omega (arith, third)))
        (nodes_inside (lone + length (lone_entries a)) (length (cross_tops a)) count b (omega (arith, third)) (omega (arith, third))))
        (parts_inside before count c common_partial (omega (arith, third))))

    all_imports : Each (Each (λ m. m < length x.units)) x.imports
    all_imports =
        let count = length x.units in
        let many = units_many in
        let both = length a + length b in
        let common = length-map c (unit_map behind_own) in
        subst (λ (w : List (List ℕ)). Each (Each (λ m. m < count)) w) (sym d.imports)
        (each_append (Each (λ m. m < count)) (imports_among (length a) 0 both d.old_lists ++ imports_among (length b) (length a) both d.new_lists)
        (imports_among (length c) both both d.common_lists)
        (each_append (Each (λ m. m < count)) (imports_among (length a) 0 both d.old_lists) (imports_among (length b) (length a) both d.new_lists)
        (imports_low (beside a c) d.old_lists 0 both count d.old_imports (omega (arith, many)) (omega (arith, many, common)))
        (imports_low (beside b c) d.new_lists (length a) both count d.new_imports (omega (arith, many)) (omega (arith, many, common))))
        (imports_low (with_common c []) d.common_lists both both count d.common_imports (omega (arith, many)) (omega (arith, many))))

    -- drawn columns fit, where there are not too many units
    pub columns_fit : length a + length b + length c < 2 ^ 32 → AreColumns (node_count (beside a c) (beside b c)) x
    columns_fit few =
        let many = units_many in
        let old = d.old in
        let new = d.new in
        record {
          names = sym (two_long (IsListNumber d.known) (node_lists a b c) x.names d.names) ∙ lists_many;
          plain = ap (λ (w : List Bool). length w) d.plain ∙ flags_many;
          few = omega (arith, few, many);
          files = omega (arith, old, new, many);
          paths = paths_many ∙ sym many;
          imports = imports_many ∙ sym many;
          inside = all_inside;
          imported = all_imports;
        }

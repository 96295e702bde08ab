-- What stands in the roots of units that are imported, and what stands in a unit after, are the entries of its ranges.
use Rattle.std.proofs.Common.{◌≡◌, ℕ, zero, suc, ◌+◌, ◌≤◌, List, [], ◌∷◌, ◌++◌, length, drop, map, Option, Some, slice_get, refl, sym, ap, ◌∙◌, arith}
use Rattle.std.specs.Prelude.{slice_index_or, slice_range}
use Rattle.std.specs.List.{flat_map}
use Rattle.std.proofs.lemmas.List.{length-append, length-drop}
use Rattle.std.proofs.lemmas.List.Concat.{flat_map-append}
use Rattle.dwz_model.proofs.Members.{each_append}
use Rattle.dwz_def_reading.specs.Documents.{Compile, DwUnit, Kind, OfType, Partial}
use Rattle.dwz_def_reading.specs.Lists.{Each}
use Rattle.dwz_def_reading.specs.Trees.{size}
use Rattle.dwz_def_reading.proofs.ListFacts.{drop_first, range_none}
use Rattle.dwz_def_cross.specs.Tops.{WithCommon, units_with_common}
use Rattle.dwz_def_expand.specs.Source.{imported_in, inside, once, source_unit, sources_below, without_imports}
use Rattle.dwz_graph.proofs.TopThere.{left_behind}
use Rattle.dwz_check_index.specs.Index.{ListedEntry, listed, listed_units}
use Rattle.dwz_imports.specs.Imports.{AreUnits, same}
use Rattle.dwz_expand_sources.specs.declared.spans.UnitSpan.{UnitSpan}
use Rattle.dwz_expand_sources.specs.Building.{AreImports, Known, kept_ranges, kind_said, part_ranges, range_below, range_if, ranges_in, said_shape, spans_from, unit_span}
use Rattle.dwz_expand_sources.specs.Sources.{IsRange, all_entries, in_range}
use Rattle.dwz_expand_sources.proofs.ListSaid.{kept_there, list_said}
use Rattle.dwz_expand_sources.proofs.RangeLemmas.{in_if, listed_followed, listed_many, range_there, stands}

-- ---- a unit by its number

-- its root has a number, and behind it stand the entries below it
pub record UnitAt (all : List (ListedEntry ℕ)) (spans : List UnitSpan) (p : ℕ) (v : DwUnit ℕ) : Type 0 where
  pub root : ℕ
  pub after : List (ListedEntry ℕ)
  pub span : slice_get spans p ≡ Some (unit_span root (root + (size v.below + 1)))
  pub stands : drop root all ≡ (v.root, v.below) ∷ (listed v.below ++ after)

module _ (all : List (ListedEntry ℕ)) where
  -- what is left behind a unit
  pub behind_unit : (root : ℕ) (v : DwUnit ℕ) (after : List (ListedEntry ℕ)) → drop root all ≡ (v.root, v.below) ∷ (listed v.below ++ after) → drop (root + (size v.below + 1)) all ≡ after
  behind_unit root v after e =
      let f = drop_first all root (v.root, v.below) (listed v.below ++ after) e in
      left_behind all (root + 1) (root + (size v.below + 1)) (listed v.below) after f.1 (omega (arith, listed_many v.below))

  -- the entries of a unit are there
  pub unit_there : (root : ℕ) (v : DwUnit ℕ) (after : List (ListedEntry ℕ)) → drop root all ≡ (v.root, v.below) ∷ (listed v.below ++ after) → root + (size v.below + 1) ≤ length all
  unit_there root v after e =
      let many = listed_many v.below in
      let a = length-drop root all in
      let b = length-append (listed v.below) after in
      let same = ap (λ (x : List (ListedEntry ℕ)). length x) e in
      omega arith

  pub below_root : (root : ℕ) (v : DwUnit ℕ) (after : List (ListedEntry ℕ)) → drop root all ≡ (v.root, v.below) ∷ (listed v.below ++ after)
      → slice_range all (root + 1) (root + (size v.below + 1)) ≡ listed v.below
  below_root root v after e =
      let f = drop_first all root (v.root, v.below) (listed v.below ++ after) e in
      stands all (root + 1) (root + (size v.below + 1)) (listed v.below) after f.1 (omega (arith, listed_many v.below))

  pub unit_at : (root : ℕ) (units : List (DwUnit ℕ)) → drop root all ≡ listed_units units → (p : ℕ) (v : DwUnit ℕ) → slice_get units p ≡ Some v → UnitAt all (spans_from root (map said_shape units)) p v
  unfolding listed_units spans_from
  unit_at root [] e p v found = absurd cc
  unit_at root (u ∷ units) e zero v found =
      let same : u ≡ v = cc in
      record {
        root = root;
        after = listed_units units;
        span = (λ j. Some (unit_span root (root + (size (same j).below + 1))));
        stands = e ∙ (λ j. ((same j).root, (same j).below) ∷ (listed (same j).below ++ listed_units units));
      }
  unit_at root (u ∷ units) e (suc p) v found =
      let r = unit_at (root + (size u.below + 1)) units (behind_unit root u (listed_units units) e) p v found in
      record { root = r.root; after = r.after; span = r.span; stands = r.stands }

  -- ---- what is imported

  module _ (units : List (DwUnit ℕ)) (are : all ≡ listed_units units) (spans : List UnitSpan) (spans_are : spans ≡ spans_from 0 (map said_shape units)) where
    part_at : (p : ℕ) (v : DwUnit ℕ) → slice_get units p ≡ Some v → UnitAt all spans p v
    part_at p v found =
        let r = unit_at 0 units are p v found in
        record { root = r.root; after = r.after; span = ap (λ (x : List UnitSpan). slice_get x p) spans_are ∙ r.span; stands = r.stands }

    pub parts_said : (parts : List ℕ) (vs : List (DwUnit ℕ)) → AreUnits units parts vs → flat_map (in_range all) (part_ranges spans parts) ≡ listed (inside vs)
    unfolding inside listed
    parts_said [] [] e = refl
    parts_said [] (v ∷ vs) e = absurd e
    parts_said (p ∷ parts) [] e = absurd e
    parts_said (p ∷ parts) (v ∷ vs) e =
        let x = part_at p v e.0 in
        ap (λ (o : Option UnitSpan). flat_map (in_range all) (range_below o ++ part_ranges spans parts)) x.span
        ∙ flat_map-append (in_range all) (range_if (x.root + 1) (x.root + (size v.below + 1))) (part_ranges spans parts)
        ∙ (λ j. (in_if all (x.root + 1) (x.root + (size v.below + 1)) (omega arith) ∙ below_root x.root v x.after x.stands) j ++ parts_said parts vs e.1 j)
        ∙ sym (listed_followed v.below (inside vs))

    pub parts_there : (parts : List ℕ) (vs : List (DwUnit ℕ)) → AreUnits units parts vs → Each (IsRange (length all)) (part_ranges spans parts)
    parts_there [] [] e = tt
    parts_there [] (v ∷ vs) e = absurd e
    parts_there (p ∷ parts) [] e = absurd e
    parts_there (p ∷ parts) (v ∷ vs) e =
        let x = part_at p v e.0 in
        let here = range_there (length all) (x.root + 1) (x.root + (size v.below + 1)) (unit_there x.root v x.after x.stands) in
        each_append (IsRange (length all)) (range_below (slice_get spans p)) (part_ranges spans parts)
        (rw x.span here) (parts_there parts vs e.1)

-- ---- a unit after

module _ (w : WithCommon ℕ) (k : Known) (imports : AreImports w k.imports k.importing) (spans_are : k.spans ≡ spans_from 0 (map said_shape (units_with_common w))) where
  abbrev all : List (ListedEntry ℕ)
  all = all_entries w

  module _ (n root : ℕ) (u : DwUnit ℕ) (after beyond : List (ListedEntry ℕ)) (found : slice_get w.own n ≡ Some u)
      (own_stands : drop root (listed_units w.own) ≡ (u.root, u.below) ∷ (listed u.below ++ after)) (all_stands : drop root (all_entries w) ≡ (u.root, u.below) ∷ (listed u.below ++ beyond)) where
    abbrev parts : List (DwUnit ℕ)
    parts = once same (imported_in same (units_with_common w) u.below)

    kept_said : flat_map (in_range all) (kept_ranges k.importing (root + 1) (root + 1) u.below) ≡ listed (without_imports same (units_with_common w) u.below)
    kept_said =
        let a = drop_first (listed_units w.own) root (u.root, u.below) (listed u.below ++ after) own_stands in
        let b = drop_first all root (u.root, u.below) (listed u.below ++ beyond) all_stands in
        let none : slice_range all (root + 1) (root + 1) ≡ [] = range_none all (root + 1) (root + 1) (omega arith) in
        list_said w k.importing imports.entries (root + 1) (root + 1) u.below after beyond (omega arith) a.1 b.1
        ∙ ap (λ (x : List (ListedEntry ℕ)). x ++ listed (without_imports same (units_with_common w) u.below)) none

    plain_said : flat_map (in_range all) (range_if (root + 1) (root + 1 + size u.below)) ≡ listed u.below
    plain_said =
        let to : root + 1 + size u.below ≡ root + (size u.below + 1) = omega arith in
        in_if all (root + 1) (root + 1 + size u.below) (omega arith) ∙ ap (λ (n : ℕ). slice_range all (root + 1) n) to ∙ below_root all root u beyond all_stands

    pub unit_said : flat_map (in_range all) (ranges_in k n root (said_shape u)) ≡ listed (source_unit same (units_with_common w) u).below
    unit_said = by u.kind where
      by : (kind : Kind ℕ) → flat_map (in_range all) (ranges_in k n root (record { kind = kind_said kind; below = u.below })) ≡ listed (sources_below same (units_with_common w) kind u.below)
      by Compile =
          flat_map-append (in_range all) (kept_ranges k.importing (root + 1) (root + 1) u.below) (part_ranges k.spans (slice_index_or k.imports n []))
          ∙ (λ j. kept_said j ++ parts_said all (units_with_common w) refl k.spans spans_are (slice_index_or k.imports n []) parts (imports.units.each n u found) j)
          ∙ sym (listed_followed (without_imports same (units_with_common w) u.below) (inside parts))
      by (OfType signature main) = plain_said
      by Partial = plain_said

    pub unit_ranges_there : Each (IsRange (length all)) (ranges_in k n root (said_shape u))
    unit_ranges_there = by u.kind where
      room : root + (size u.below + 1) ≤ length all
      room = unit_there all root u beyond all_stands

      by : (kind : Kind ℕ) → Each (IsRange (length all)) (ranges_in k n root (record { kind = kind_said kind; below = u.below }))
      by Compile = each_append (IsRange (length all)) (kept_ranges k.importing (root + 1) (root + 1) u.below) (part_ranges k.spans (slice_index_or k.imports n []))
          (kept_there k.importing (length all) (root + 1) (root + 1) u.below (omega (arith, room)))
          (parts_there all (units_with_common w) refl k.spans spans_are (slice_index_or k.imports n []) parts (imports.units.each n u found))
      by (OfType signature main) = range_there (length all) (root + 1) (root + 1 + size u.below) (omega (arith, room))
      by Partial = range_there (length all) (root + 1) (root + 1 + size u.below) (omega (arith, room))

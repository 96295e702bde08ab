-- The entries of a list that import no unit are those of its ranges.
use Rattle.std.proofs.Common.{◌≡◌, ℕ, ◌+◌, ◌≤◌, Bool, true, false, List, [], ◌∷◌, ◌++◌, drop, map, Some, slice_get, refl, sym, ap, ◌∙◌, arith}
use Rattle.std.specs.Prelude.{slice_index_or, slice_range}
use Rattle.std.specs.List.{flat_map}
use Rattle.std.proofs.lemmas.List.{append-nil, append_assoc, map-append}
use Rattle.std.proofs.lemmas.List.Concat.{flat_map-append}
use Rattle.dwz_model.proofs.Members.{each_append}
use Rattle.dwz_def_reading.specs.Documents.{DwUnit, Entries, Node}
use Rattle.dwz_def_reading.specs.Lists.{Each}
use Rattle.dwz_def_reading.specs.Trees.{End, Entry, size}
use Rattle.dwz_def_reading.proofs.ListFacts.{drop_first, got_index_or, got_map, range_none}
use Rattle.dwz_def_cross.specs.Tops.{WithCommon, units_with_common}
use Rattle.dwz_def_expand.specs.Source.{imported_by, unless_import, without_imports}
use Rattle.dwz_graph.specs.Rows.{nodes}
use Rattle.dwz_graph.proofs.TopThere.{left_behind}
use Rattle.dwz_graph.proofs.JoinLemmas.{range_both}
use Rattle.dwz_check_index.specs.Index.{ListedEntry, listed, listed_units}
use Rattle.dwz_imports.specs.Imports.{importing_flags, imports_any, is_some_unit, same, unit_nodes}
use Rattle.dwz_expand_sources.specs.declared.sources.SourceRange.{SourceRange}
use Rattle.dwz_expand_sources.specs.Building.{kept_ranges, range_if}
use Rattle.dwz_expand_sources.specs.Sources.{IsRange, all_entries, in_range}
use Rattle.dwz_expand_sources.proofs.ListSteps.{kept_end, kept_import, kept_plain}
use Rattle.dwz_expand_sources.proofs.RangeLemmas.{in_if, listed_many, range_there, stands}

-- ---- the ranges are there

pub kept_there : (importing : List Bool) (count from at : ℕ) (g : Entries ℕ) → at + size g ≤ count → Each (IsRange count) (kept_ranges importing from at g)
unfolding kept_ranges
kept_there importing count from at End le = range_there count from at (omega arith)
kept_there importing count from at (Entry d c n) le =
    by (slice_index_or importing at false) (λ from. kept_there importing count from (at + 1 + size c) n (omega arith)) (range_there count from at (omega arith)) where
      by : (b : Bool) → ((from : ℕ) → Each (IsRange count) (kept_ranges importing from (at + 1 + size c) n)) → Each (IsRange count) (range_if from at)
          → Each (IsRange count) (elim b as (λ _. List SourceRange) [
            | true ↦ range_if from at ++ kept_ranges importing (at + 1 + size c) (at + 1 + size c) n
            | false ↦ kept_ranges importing from (at + 1 + size c) n
          ])
      by true next here = each_append (IsRange count) (range_if from at) (kept_ranges importing (at + 1 + size c) (at + 1 + size c) n) here (next (at + 1 + size c))
      by false next here = next from

-- ---- their entries

nodes_listed : (f : Entries ℕ) → nodes f ≡ map (λ (d : ListedEntry ℕ). d.0) (listed f)
unfolding nodes listed
nodes_listed End = refl
nodes_listed (Entry e c n) =
    ap (λ (x : List (Node ℕ)). e ∷ x) ((λ j. nodes_listed c j ++ nodes_listed n j) ∙ sym (map-append (λ (d : ListedEntry ℕ). d.0) (listed c) (listed n)))

units_listed : (units : List (DwUnit ℕ)) → unit_nodes units ≡ map (λ (d : ListedEntry ℕ). d.0) (listed_units units)
unfolding unit_nodes listed_units nodes
units_listed [] = refl
units_listed (u ∷ units) =
    ap (λ (x : List (Node ℕ)). u.root ∷ x)
    ((λ j. append-nil (nodes u.below) j ++ units_listed units j)
    ∙ (λ j. nodes_listed u.below j ++ map (λ (d : ListedEntry ℕ). d.0) (listed_units units))
    ∙ sym (map-append (λ (d : ListedEntry ℕ). d.0) (listed u.below) (listed_units units)))

module _ (w : WithCommon ℕ) (importing : List Bool) (marks : importing ≡ importing_flags w) where
  abbrev own : List (ListedEntry ℕ)
  own = listed_units w.own

  abbrev kept : Entries ℕ → Entries ℕ
  kept f = without_imports same (units_with_common w) f

  abbrev imports : Node ℕ → Bool
  imports e = imports_any (units_with_common w) e

  marked : (at : ℕ) (d : ListedEntry ℕ) → slice_get own at ≡ Some d → slice_index_or importing at false ≡ imports_any (units_with_common w) d.0
  marked at d found =
      let nodes : List (Node ℕ) = unit_nodes w.own in
      let node : slice_get nodes at ≡ Some d.0 = ap (λ (x : List (Node ℕ)). slice_get x at) (units_listed w.own) ∙ got_map (λ (x : ListedEntry ℕ). x.0) own at d found in
      ap (λ (m : List Bool). slice_index_or m at false) marks ∙ got_index_or (map imports nodes) at (imports d.0) false (got_map imports nodes at d.0 node)

  stays : (d : Node ℕ) (c n : Entries ℕ) → imports_any (units_with_common w) d ≡ false → kept (Entry d c n) ≡ Entry d c (kept n)
  unfolding without_imports
  stays d c n h = by (imported_by same (units_with_common w) d) h where
    by : (parts : List (DwUnit ℕ)) → is_some_unit parts ≡ false
        → unless_import parts d c (without_imports same (units_with_common w) n) ≡ Entry d c (without_imports same (units_with_common w) n)
    by [] h = refl
    by (v ∷ parts) h = absurd cc

  goes : (d : Node ℕ) (c n : Entries ℕ) → imports_any (units_with_common w) d ≡ true → kept (Entry d c n) ≡ kept n
  unfolding without_imports
  goes d c n h = by (imported_by same (units_with_common w) d) h where
    by : (parts : List (DwUnit ℕ)) → is_some_unit parts ≡ true
        → unless_import parts d c (without_imports same (units_with_common w) n) ≡ without_imports same (units_with_common w) n
    by [] h = absurd cc
    by (v ∷ parts) h = refl

  none_kept : listed (kept End) ≡ []
  unfolding listed without_imports
  none_kept = refl

  one_listed : (d : Node ℕ) (c n : Entries ℕ) → listed (Entry d c n) ≡ (d, c) ∷ (listed c ++ listed n)
  unfolding listed
  one_listed d c n = refl

  -- the first of a list, and those behind it
  record Firsts (entries : List (ListedEntry ℕ)) (at : ℕ) (d : Node ℕ) (c n : Entries ℕ) (after : List (ListedEntry ℕ)) : Type 0 where
    found : slice_get entries at ≡ Some (d, c)
    here : slice_range entries at (at + 1 + size c) ≡ (d, c) ∷ listed c
    next : drop (at + 1 + size c) entries ≡ listed n ++ after

  firsts : (entries : List (ListedEntry ℕ)) (at : ℕ) (d : Node ℕ) (c n : Entries ℕ) (after : List (ListedEntry ℕ)) → drop at entries ≡ listed (Entry d c n) ++ after
      → Firsts entries at d c n after
  unfolding listed
  firsts entries at d c n after e =
      let f = drop_first entries at (d, c) ((listed c ++ listed n) ++ after) e in
      let parts : (listed c ++ listed n) ++ after ≡ listed c ++ (listed n ++ after) = append_assoc (listed c) (listed n) after in
      let many = listed_many c in
      record {
        found = f.0;
        here = stands entries at (at + 1 + size c) ((d, c) ∷ listed c) (listed n ++ after) (e ∙ ap (λ (x : List (ListedEntry ℕ)). (d, c) ∷ x) parts) (omega arith);
        next = left_behind entries (at + 1) (at + 1 + size c) (listed c) (listed n ++ after) (f.1 ∙ parts) (omega arith);
      }

  abbrev entries_of : List SourceRange → List (ListedEntry ℕ)
  entries_of ranges = flat_map (in_range (all_entries w)) ranges

  pub list_said : (from at : ℕ) (g : Entries ℕ) (after beyond : List (ListedEntry ℕ)) → from ≤ at → drop at own ≡ listed g ++ after → drop at (all_entries w) ≡ listed g ++ beyond
      → entries_of (kept_ranges importing from at g) ≡ slice_range (all_entries w) from at ++ listed (kept g)
  list_said from at End after beyond le e f =
      ap entries_of (kept_end (Node ℕ) importing from at) ∙ in_if (all_entries w) from at le ∙ sym (append-nil (slice_range (all_entries w) from at))
      ∙ ap (λ (x : List (ListedEntry ℕ)). slice_range (all_entries w) from at ++ x) (sym none_kept)
  list_said from at (Entry d c n) after beyond le e f =
      by (imports_any (units_with_common w) d) refl (λ from le. list_said from (at + 1 + size c) n after beyond le a.next b.next) where
        a : Firsts own at d c n after
        a = firsts own at d c n after e

        b : Firsts (all_entries w) at d c n beyond
        b = firsts (all_entries w) at d c n beyond f

        by : (t : Bool) → imports_any (units_with_common w) d ≡ t
            → ((from : ℕ) → from ≤ at + 1 + size c → entries_of (kept_ranges importing from (at + 1 + size c) n) ≡ slice_range (all_entries w) from (at + 1 + size c) ++ listed (kept n))
            → entries_of (kept_ranges importing from at (Entry d c n)) ≡ slice_range (all_entries w) from at ++ listed (kept (Entry d c n))
        by true is next =
            let none : slice_range (all_entries w) (at + 1 + size c) (at + 1 + size c) ≡ [] = range_none (all_entries w) (at + 1 + size c) (at + 1 + size c) (omega arith) in
            ap entries_of (kept_import importing from at d c n (marked at (d, c) a.found ∙ is))
            ∙ flat_map-append (in_range (all_entries w)) (range_if from at) (kept_ranges importing (at + 1 + size c) (at + 1 + size c) n)
            ∙ (λ j. in_if (all_entries w) from at le j ++ next (at + 1 + size c) (omega arith) j)
            ∙ (λ j. slice_range (all_entries w) from at ++ (none j ++ listed (kept n)))
            ∙ ap (λ (x : Entries ℕ). slice_range (all_entries w) from at ++ listed x) (sym (goes d c n is))
        by false is next =
            ap entries_of (kept_plain importing from at d c n (marked at (d, c) a.found ∙ is))
            ∙ next from (omega arith)
            ∙ ap (λ (x : List (ListedEntry ℕ)). x ++ listed (kept n)) (range_both (all_entries w) from at (at + 1 + size c) le (omega arith))
            ∙ append_assoc (slice_range (all_entries w) from at) (slice_range (all_entries w) at (at + 1 + size c)) (listed (kept n))
            ∙ ap (λ (x : List (ListedEntry ℕ)). slice_range (all_entries w) from at ++ (x ++ listed (kept n))) b.here
            ∙ ap (λ (x : List (ListedEntry ℕ)). slice_range (all_entries w) from at ++ x) (sym (one_listed d c (kept n)))
            ∙ ap (λ (x : Entries ℕ). slice_range (all_entries w) from at ++ listed x) (sym (stays d c n is))

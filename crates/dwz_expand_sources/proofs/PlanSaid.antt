-- All units: the plan that is built is that of the document.
use Rattle.std.proofs.Common.{◌≡◌, ℕ, suc, ◌+◌, ◌<◌, Bool, List, [], ◌∷◌, ◌++◌, length, drop, map, Some, slice_get, refl, sym, ap, subst, ◌∙◌, arith}
use Rattle.std.specs.Prelude.{if◌then◌else◌, slice_index_or, ◌==◌}
use Rattle.std.specs.List.{flat_map}
use Rattle.std.proofs.lemmas.List.{append-nil, append_assoc, length-append, length-map, map-append}
use Rattle.dwz_model.proofs.Members.{each_append}
use Rattle.dwz_def_reading.specs.Documents.{Compile, DwUnit, Kind, OfType, Partial, unit_map}
use Rattle.dwz_def_reading.specs.Lists.{Each}
use Rattle.dwz_def_reading.specs.Meanings.{MeanUnits}
use Rattle.dwz_def_reading.specs.Trees.{End, Entry, size}
use Rattle.dwz_def_reading.specs.Units.{RawUnit, entries_in}
use Rattle.dwz_def_reading.proofs.ListFacts.{drop_first, got_below, got_there}
use Rattle.dwz_def_reading.proofs.MeaningUnits.{units_agree}
use Rattle.dwz_def_cross.specs.CrossSame.{EachTwo}
use Rattle.dwz_def_cross.specs.Tops.{WithCommon, units_with_common, unless_partial, whole_units}
use Rattle.dwz_def_expand.specs.Source.{imported_in, once}
use Rattle.dwz_graph.specs.Rows.{nodes}
use Rattle.dwz_graph.proofs.TreeLemmas.{nodes_many as entries_many}
use Rattle.dwz_graph.specs.Surroundings.{behind_own}
use Rattle.dwz_check_index.specs.Index.{ListedEntry, listed, listed_units}
use Rattle.dwz_imports.specs.Imports.{AreUnits, imports_any, same, unit_nodes}
use Rattle.dwz_imports.specs.Said.{SaysBeside}
use Rattle.dwz_expand_sources.specs.declared.sources.NewUnit.{NewUnit}
use Rattle.dwz_expand_sources.specs.declared.sources.SourceRange.{SourceRange}
use Rattle.dwz_expand_sources.specs.declared.spans.UnitSpan.{UnitSpan}
use Rattle.dwz_expand_sources.specs.Building.{AreImports, AreImportsOf, Known, kind_said, nothing_yet, ranges_in, said_shape, shape_count, spans_from, stored_shape, with_new, with_unit, with_units}
use Rattle.dwz_expand_sources.specs.Sources.{AreSources, IsNewUnit, IsRange, Sources, all_entries, in_range, ranges_of}
use Rattle.dwz_expand_sources.proofs.RangeLemmas.{range_end, range_kept}
use Rattle.dwz_expand_sources.proofs.Shapes.{count_means, means_length, spans_append, spans_map, spans_mean, stored_count, units_mean}
use Rattle.dwz_expand_sources.proofs.UnitSaid.{behind_unit, unit_ranges_there, unit_said}

-- ---- what was added before stays

module _ (w : WithCommon ℕ) where
  grown : (a b : List SourceRange) (xs : List NewUnit) (us : List (DwUnit ℕ)) → EachTwo (IsNewUnit w a) xs us → EachTwo (IsNewUnit w (a ++ b)) xs us
  grown a b [] [] h = tt
  grown a b [] (u ∷ us) h = absurd h
  grown a b (x ∷ xs) [] h = absurd h
  grown a b (x ∷ xs) (u ∷ us) h =
      let i = h.0 in
      let within = i.within in
      let more = length-append a b in
      let same : ranges_of (a ++ b) x ≡ ranges_of a x = range_kept a b x.first x.end i.rises i.within in (
        record {
          unit = i.unit;
          root = i.root;
          rises = i.rises;
          within = omega arith;
          below = ap (flat_map (in_range (all_entries w))) same ∙ i.below;
        },
        grown a b xs us h.1,
      )

  one_more : (a : List SourceRange) (xs : List NewUnit) (us : List (DwUnit ℕ)) (y : NewUnit) (v : DwUnit ℕ) → EachTwo (IsNewUnit w a) xs us → IsNewUnit w a y v
      → EachTwo (IsNewUnit w a) (xs ++ y ∷ []) (us ++ v ∷ [])
  one_more a [] [] y v h i = (i, tt)
  one_more a [] (u ∷ us) y v h i = absurd h
  one_more a (x ∷ xs) [] y v h i = absurd h
  one_more a (x ∷ xs) (u ∷ us) y v h i = (h.0, one_more a xs us y v h.1 i)

-- ---- unit by unit

-- what was added of units is that of these, in order
pub record Built (w : WithCommon ℕ) (done : List (DwUnit ℕ)) (x : Sources) : Type 0 where
  pub units : EachTwo (IsNewUnit w x.ranges) x.units done
  pub ranges : Each (IsRange (length (all_entries w))) x.ranges

built_to : (w : WithCommon ℕ) (a b : List (DwUnit ℕ)) (x : Sources) → a ≡ b → Built w a x → Built w b x
built_to w a b x e h = subst (λ (done : List (DwUnit ℕ)). Built w done x) e h

module _ (w : WithCommon ℕ) (k : Known) (imports : AreImports w k.imports k.importing) (spans_are : k.spans ≡ spans_from 0 (map said_shape (units_with_common w))) where
  new_built : (n root : ℕ) (u : DwUnit ℕ) (after beyond : List (ListedEntry ℕ)) (done : List (DwUnit ℕ)) (x : Sources) → slice_get w.own n ≡ Some u
      → drop root (listed_units w.own) ≡ (u.root, u.below) ∷ (listed u.below ++ after) → drop root (all_entries w) ≡ (u.root, u.below) ∷ (listed u.below ++ beyond)
      → Built w done x → Built w (done ++ u ∷ []) (with_new n root (ranges_in k n root (said_shape u)) x)
  new_built n root u after beyond done x found own_stands all_stands b =
      let ranges = ranges_in k n root (said_shape u) in
      let y : NewUnit = record { unit = n; root = root; first = length x.ranges; end = length (x.ranges ++ ranges) } in
      let more = length-append x.ranges ranges in
      let own : IsNewUnit w (x.ranges ++ ranges) y u = record {
        unit = found;
        root = (drop_first (all_entries w) root (u.root, u.below) (listed u.below ++ beyond) all_stands).0;
        rises = omega arith;
        within = omega arith;
        below = ap (flat_map (in_range (all_entries w))) (range_end x.ranges ranges) ∙ unit_said w k imports spans_are n root u after beyond found own_stands all_stands;
      } in
      record {
        units = one_more w (x.ranges ++ ranges) x.units done y u (grown w x.ranges ranges x.units done b.units) own;
        ranges = each_append (IsRange (length (all_entries w))) x.ranges ranges b.ranges (unit_ranges_there w k imports spans_are n root u after beyond found own_stands all_stands);
      }

  -- those that aren't partial among a unit and others
  abbrev with_whole : Kind ℕ → DwUnit ℕ → List (DwUnit ℕ) → List (DwUnit ℕ)
  with_whole Partial u done = done
  with_whole _ u done = done ++ u ∷ []

  whole_next : (u : DwUnit ℕ) (done us : List (DwUnit ℕ)) → with_whole u.kind u done ++ whole_units us ≡ done ++ whole_units (u ∷ us)
  unfolding whole_units
  whole_next u done us = by u.kind where
    by : (kind : Kind ℕ) → with_whole kind u done ++ whole_units us ≡ done ++ unless_partial kind u (whole_units us)
    by Compile = append_assoc done (u ∷ []) (whole_units us)
    by (OfType signature main) = append_assoc done (u ∷ []) (whole_units us)
    by Partial = refl

  unit_built : (n root : ℕ) (u : DwUnit ℕ) (after beyond : List (ListedEntry ℕ)) (done : List (DwUnit ℕ)) (x : Sources) → slice_get w.own n ≡ Some u
      → drop root (listed_units w.own) ≡ (u.root, u.below) ∷ (listed u.below ++ after) → drop root (all_entries w) ≡ (u.root, u.below) ∷ (listed u.below ++ beyond)
      → Built w done x → Built w (with_whole u.kind u done) (with_unit k n root (said_shape u) x)
  unit_built n root u after beyond done x found own_stands all_stands b = by u.kind where
    by : (kind : Kind ℕ) → Built w (with_whole kind u done) (if kind_said kind == 3 then x else with_new n root (ranges_in k n root (said_shape u)) x)
    by Compile = new_built n root u after beyond done x found own_stands all_stands b
    by (OfType signature main) = new_built n root u after beyond done x found own_stands all_stands b
    by Partial = b

  units_built : (n root : ℕ) (us : List (DwUnit ℕ)) (done : List (DwUnit ℕ)) (x : Sources) → drop n w.own ≡ us → drop root (listed_units w.own) ≡ listed_units us
      → drop root (all_entries w) ≡ listed_units (us ++ w.common) → Built w done x → Built w (done ++ whole_units us) (with_units k n root (map said_shape us) x)
  unfolding with_units listed_units whole_units
  units_built n root [] done x at own_stands all_stands b = built_to w done (done ++ []) x (sym (append-nil done)) b
  units_built n root (u ∷ us) done x at own_stands all_stands b =
      let here = drop_first w.own n u us at in
      let y = with_unit k n root (said_shape u) x in
      let next = unit_built n root u (listed_units us) (listed_units (us ++ w.common)) done x here.0 own_stands all_stands b in
      built_to w (with_whole u.kind u done ++ whole_units us) (done ++ whole_units (u ∷ us)) (with_units k (n + 1) (root + (size u.below + 1)) (map said_shape us) y) (whole_next u done us)
      (units_built (n + 1) (root + (size u.below + 1)) us (with_whole u.kind u done) y here.1 (behind_unit (listed_units w.own) root u (listed_units us) own_stands)
      (behind_unit (all_entries w) root u (listed_units (us ++ w.common)) all_stands) next)

  pub plan_said : (x : Sources) → x ≡ with_units k 0 0 (map said_shape w.own) nothing_yet → AreSources w x
  plan_said x e =
      let b = units_built 0 0 w.own [] nothing_yet refl refl refl (record { units = tt; ranges = tt }) in
      let c = subst (λ (y : Sources). Built w (whole_units w.own) y) (sym e) b in
      record { units = c.units; ranges = c.ranges }

-- ---- of what is stored

module _ (own others : List RawUnit) (w : WithCommon ℕ) (says : SaysBeside own others w) where
  a : MeanUnits says.around own w.own
  a = ((units_agree says.around own).ok w.own).0 says.means

  b : MeanUnits says.beside others says.said
  b = ((units_agree says.beside others).ok says.said).0 says.common_means

  both_said : spans_from 0 (map stored_shape (own ++ others)) ≡ spans_from 0 (map said_shape (units_with_common w))
  both_said =
      let count = count_means says.around own w.own a in
      ap (spans_from 0) (map-append stored_shape own others)
      ∙ spans_append 0 (map stored_shape own) (map stored_shape others)
      ∙ (λ j. spans_mean says.around 0 own w.own a j ++ spans_mean says.beside (0 + count j) others says.said b j)
      ∙ ap (λ (x : List UnitSpan). spans_from 0 (map said_shape w.own) ++ x) (sym (spans_map behind_own (0 + shape_count (map said_shape w.own)) says.said))
      ∙ ap (λ (x : List (DwUnit ℕ)). spans_from 0 (map said_shape w.own) ++ spans_from (0 + shape_count (map said_shape w.own)) (map said_shape x)) (sym says.common_are)
      ∙ sym (spans_append 0 (map said_shape w.own) (map said_shape w.common))
      ∙ ap (spans_from 0) (sym (map-append said_shape w.own w.common))

  pub plan_of : (k : Known) (x : Sources) → k.spans ≡ spans_from 0 (map stored_shape (own ++ others)) → AreImports w k.imports k.importing
      → x ≡ with_units k 0 0 (map stored_shape own) nothing_yet → AreSources w x
  plan_of k x spans imports built = plan_said w k imports (spans ∙ both_said) x (built ∙ units_mean says.around k 0 0 own w.own nothing_yet a)

  -- ---- what is asked for

  numbers_there : (units : List (DwUnit ℕ)) (numbers : List ℕ) (vs : List (DwUnit ℕ)) → AreUnits units numbers vs → Each (λ n. n < length units) numbers
  numbers_there units [] [] h = tt
  numbers_there units [] (v ∷ vs) h = absurd h
  numbers_there units (n ∷ numbers) [] h = absurd h
  numbers_there units (n ∷ numbers) (v ∷ vs) h = (got_below units n v h.0, numbers_there units numbers vs h.1)

  each_list : (P : List ℕ → Type 0) (lists : List (List ℕ)) → ((n : ℕ) → n < length lists → P (slice_index_or lists n [])) → Each P lists
  each_list P [] h = tt
  each_list P (x ∷ lists) h = (h 0 (omega arith), each_list P lists (λ n lt. h (suc n) (omega arith)))

  nodes_many : (units : List (DwUnit ℕ)) → length (unit_nodes units) ≡ shape_count (map said_shape units)
  unfolding unit_nodes shape_count
  nodes_many [] = refl
  nodes_many (u ∷ units) = omega (arith, length-append (nodes (Entry u.root u.below End)) (unit_nodes units), nodes_many units, entries_many (Entry u.root u.below End))

  pub imports_there : (imports : List (List ℕ)) (importing : List Bool) → AreImports w imports importing → AreImportsOf (length own) (length own + length others) (entries_in own) imports importing
  imports_there imports importing h =
      let units = means_length says.around own w.own a in
      let more = means_length says.beside others says.said b in
      let common = ap (λ (x : List (DwUnit ℕ)). length x) says.common_are ∙ length-map says.said (unit_map behind_own) in
      let all : length (units_with_common w) ≡ length own + length others = omega (arith, length-append w.own w.common, units, more, common) in
      let len = h.units.len in
      let count = count_means says.around own w.own a in
      let marks = ap (λ (x : List Bool). length x) h.entries ∙ length-map (unit_nodes w.own) (imports_any (units_with_common w)) ∙ nodes_many w.own in
      record {
        lists = omega arith;
        within = each_list (λ list. Each (λ v. v < length own + length others) list) imports (λ n lt. (
            let u = got_there w.own n (omega arith) in
            subst (λ (m : ℕ). Each (λ v. v < m) (slice_index_or imports n [])) all
            (numbers_there (units_with_common w) (slice_index_or imports n []) (once same (imported_in same (units_with_common w) u.0.below)) (h.units.each n u.0 u.1))));
        marks = omega (arith, marks, count, stored_count own);
      }

-- The sources of new units, by the numbers of their entries and by their places.
use Rattle.std.proofs.Common.{◌≡◌, ℕ, zero, suc, ◌+◌, ◌-◌, ◌<◌, ◌≤◌, List, [], ◌∷◌, ◌++◌, length, map, get_or, take, drop, Some, slice_get, refl, sym, ap, subst, ◌∙◌, arith, inl, inr, ⊎_elim}
use Rattle.std.specs.Prelude.{slice_range}
use Rattle.std.specs.List.{flat_map, range_with_len}
use Rattle.std.proofs.lemmas.List.{drop-map, length-map, map-append, take-append-drop, take-map}
use Rattle.dwz_model.specs.Lists.{Each, In, NoneTwice}
use Rattle.dwz_model.proofs.ListFacts.{drop_pairs, got_below, got_in, got_index_or, got_map, in_cases, in_left, in_right}
use Rattle.dwz_model.proofs.Members.{each_append, each_split}
use Rattle.dwz_model.proofs.OnceLemmas.{none_right}
use Rattle.dwz_def_reading.specs.Documents.{DwUnit, Entries}
use Rattle.dwz_def_reading.specs.Trees.{End, Entry}
use Rattle.dwz_def_tops.specs.Shown.{keys, unit_keys, units_keys}
use Rattle.dwz_def_encoding.specs.Meant.{entry_keys}
use Rattle.dwz_def_cross.specs.CrossSame.{EachTwo}
use Rattle.dwz_def_cross.specs.Tops.{WithCommon, units_with_common, whole_units}
use Rattle.dwz_def_expand.specs.Source.{source_places, source_unit}
use Rattle.dwz_check_index.specs.Index.{ListedEntry, listed, listed_units}
use Rattle.dwz_imports.specs.Imports.{same}
use Rattle.dwz_expand_sources.specs.declared.sources.NewUnit.{NewUnit}
use Rattle.dwz_expand_sources.specs.declared.sources.SourceRange.{SourceRange}
use Rattle.dwz_expand_sources.specs.Numbers.{HasRanges, range_count}
use Rattle.dwz_expand_sources.specs.Sources.{AreSources, IsNewUnit, IsRange, Sources, all_entries, in_range, ranges_of}
use Rattle.dwz_expand_sources.specs.Rows.{HaveEntries, entry_lists, range_entries, unit_entries}

-- ---- places

abbrev pub place_in : ListedEntry ℕ → ℕ
place_in d = d.0.at

keys_listed : (g : Entries ℕ) → keys g ≡ map place_in (listed g)
unfolding keys listed
keys_listed End = refl
keys_listed (Entry e c n) =
    ap (λ (w : List ℕ). e.at ∷ w) ((λ j. keys_listed c j ++ keys_listed n j) ∙ sym (map-append place_in (listed c) (listed n)))

-- each place of an entry is one of its unit's
listed_key : (x : ℕ) (units : List (DwUnit ℕ)) → In x (map place_in (listed_units units)) → In x (units_keys units)
unfolding listed_units units_keys unit_keys
listed_key x [] is = absurd is
listed_key x (u ∷ units) (inl e) = inr (inl e)
listed_key x (u ∷ units) (inr r) =
    let parts = map-append place_in (listed u.below) (listed_units units) in
    inr (inr (⊎_elim
    (λ (own : In x (map place_in (listed u.below))). in_left x (keys u.below) (units_keys units) (subst (λ (w : List ℕ). In x w) (sym (keys_listed u.below)) own))
    (λ (other : In x (map place_in (listed_units units))). in_right x (keys u.below) (units_keys units) (listed_key x units other))
    (in_cases x (map place_in (listed u.below)) (map place_in (listed_units units)) (subst (λ (w : List ℕ). In x w) parts r))))

none_from : (a b c : List ℕ) → NoneTwice (a ++ c) → ((x : ℕ) → In x b → In x c) → NoneTwice b → NoneTwice (a ++ b)
none_from [] b c apart inside once = once
none_from (k ∷ a) b c apart inside once =
    (λ is. apart.0 (⊎_elim (λ (own : In k a). in_left k a c own) (λ (other : In k b). in_right k a c (inside k other)) (in_cases k a b is)), none_from a b c apart.1 inside once)

pub places_once : (units : List (DwUnit ℕ)) → NoneTwice (units_keys units) → NoneTwice (map place_in (listed_units units))
unfolding listed_units units_keys unit_keys
places_once [] apart = tt
places_once (u ∷ units) apart =
    let own : List ℕ = u.root.at ∷ keys u.below in
    let rest : NoneTwice (units_keys units) = none_right own (units_keys units) apart.1 in
    let all : NoneTwice (own ++ map place_in (listed_units units)) =
    none_from own (map place_in (listed_units units)) (units_keys units) apart.1 (λ x is. listed_key x units is) (places_once units rest) in
    let parts : own ++ map place_in (listed_units units) ≡ map place_in ((u.root, u.below) ∷ (listed u.below ++ listed_units units)) =
    ap (λ (w : List ℕ). u.root.at ∷ w)
    (ap (λ (w : List ℕ). w ++ map place_in (listed_units units)) (keys_listed u.below) ∙ sym (map-append place_in (listed u.below) (listed_units units))) in
    subst (λ (w : List ℕ). NoneTwice w) parts all

got_or : (xs : List ℕ) (i : ℕ) → i < length xs → slice_get xs i ≡ Some (get_or xs i 0)
got_or [] i lt = absurd (omega arith)
got_or (x ∷ xs) zero lt = refl
got_or (x ∷ xs) (suc i) lt = got_or xs i (omega arith)

in_or : (xs : List ℕ) (i : ℕ) → i < length xs → In (get_or xs i 0) xs
in_or xs i lt = got_in xs i (get_or xs i 0) (got_or xs i lt)

pub one_number : (xs : List ℕ) → NoneTwice xs → (i j : ℕ) → i < length xs → j < length xs → get_or xs i 0 ≡ get_or xs j 0 → i ≡ j
one_number [] apart i j low inside e = absurd (omega arith)
one_number (x ∷ xs) apart zero zero low inside e = refl
one_number (x ∷ xs) apart zero (suc j) low inside e = absurd (apart.0 (subst (λ (k : ℕ). In k xs) (sym e) (in_or xs j (omega arith))))
one_number (x ∷ xs) apart (suc i) zero low inside e = absurd (apart.0 (subst (λ (k : ℕ). In k xs) e (in_or xs i (omega arith))))
one_number (x ∷ xs) apart (suc i) (suc j) low inside e = ap suc (one_number xs apart.1 i j (omega arith) (omega arith) e)

-- ---- ranges

numbers_map : (xs : List ℕ) (a n : ℕ) → a + n ≤ length xs → map (λ (j : ℕ). get_or xs j 0) (range_with_len a n) ≡ take n (drop a xs)
numbers_map xs a zero le = refl
numbers_map xs a (suc n) le =
    ap (λ (w : List ℕ). get_or xs a 0 ∷ w) (numbers_map xs (a + 1) n (omega arith))
    ∙ sym (ap (λ (w : List ℕ). take (suc n) w) (drop_pairs xs a 0 (omega arith)))

each_part : {X : Type 0} (P : X → Type 0) (xs : List X) (i j : ℕ) → Each P xs → Each P (slice_range xs i j)
each_part {X} P xs i j all =
    let behind = (each_split P (take i xs) (drop i xs) (subst (λ (w : List X). Each P w) (sym (take-append-drop i xs)) all)).1 in
    (each_split P (take (j - i) (drop i xs)) (drop (j - i) (drop i xs)) (subst (λ (w : List X). Each P w) (sym (take-append-drop (j - i) (drop i xs))) behind)).0

module _ (w : WithCommon ℕ) where
  abbrev pub places : List ℕ
  places = map place_in (all_entries w)

  abbrev pub place : ℕ → ℕ
  place j = get_or places j 0

  range_places : (r : SourceRange) → IsRange (length (all_entries w)) r → map place (range_entries r) ≡ map place_in (in_range (all_entries w) r)
  range_places r is =
      let long = length-map (all_entries w) place_in in
      let a = is.some in
      let b = is.within in
      numbers_map places r.first (range_count r) (omega arith)
      ∙ ap (λ (x : List ℕ). take (range_count r) x) (drop-map place_in r.first (all_entries w))
      ∙ take-map place_in (range_count r) (drop r.first (all_entries w))

  ranges_places : (ranges : List SourceRange) → Each (IsRange (length (all_entries w))) ranges
      → map place (flat_map range_entries ranges) ≡ map place_in (flat_map (in_range (all_entries w)) ranges)
  ranges_places [] are = refl
  ranges_places (r ∷ ranges) are =
      map-append place (range_entries r) (flat_map range_entries ranges)
      ∙ (λ j. range_places r are.0 j ++ ranges_places ranges are.1 j)
      ∙ sym (map-append place_in (in_range (all_entries w) r) (flat_map (in_range (all_entries w)) ranges))

  unit_places : (ranges : List SourceRange) → Each (IsRange (length (all_entries w))) ranges → (x : NewUnit) (u : DwUnit ℕ) → IsNewUnit w ranges x u
      → map place (unit_entries ranges x) ≡ entry_keys (source_unit same (units_with_common w) u)
  unit_places ranges are x u is =
      let root : place x.root ≡ u.root.at = got_index_or places x.root u.root.at 0 (got_map place_in (all_entries w) x.root (u.root, u.below) is.root) in
      let below = (source_unit same (units_with_common w) u).below in
      (λ j. root j ∷ ranges_places (ranges_of ranges x) (each_part (IsRange (length (all_entries w))) ranges x.first x.end are) j)
      ∙ ap (λ (g : List (ListedEntry ℕ)). u.root.at ∷ map place_in g) is.below
      ∙ ap (λ (g : List ℕ). u.root.at ∷ g) (sym (keys_listed below))

  lists_places : (ranges : List SourceRange) → Each (IsRange (length (all_entries w))) ranges → (units : List NewUnit) (us : List (DwUnit ℕ)) → EachTwo (IsNewUnit w ranges) units us
      → map (λ (list : List ℕ). map place list) (map (unit_entries ranges) units) ≡ map entry_keys (map (source_unit same (units_with_common w)) us)
  lists_places ranges are [] [] each = refl
  lists_places ranges are [] (u ∷ us) each = absurd each
  lists_places ranges are (x ∷ units) [] each = absurd each
  lists_places ranges are (x ∷ units) (u ∷ us) each = (λ j. unit_places ranges are x u each.0 j ∷ lists_places ranges are units us each.1 j)

  pub sources_places : (s : Sources) → AreSources w s → map (λ (list : List ℕ). map place list) (entry_lists s) ≡ source_places same w
  sources_places s are = lists_places s.ranges are.ranges s.units (whole_units w.own) are.units

  -- ---- what sources are like

  pub have_ranges : (ranges : List SourceRange) (units : List NewUnit) (us : List (DwUnit ℕ)) → EachTwo (IsNewUnit w ranges) units us → Each (HasRanges ranges) units
  have_ranges ranges [] [] each = tt
  have_ranges ranges [] (u ∷ us) each = absurd each
  have_ranges ranges (x ∷ units) [] each = absurd each
  have_ranges ranges (x ∷ units) (u ∷ us) each = (record { rises = each.0.rises; within = each.0.within }, have_ranges ranges units us each.1)

  pub have_roots : (ranges : List SourceRange) (units : List NewUnit) (us : List (DwUnit ℕ)) → EachTwo (IsNewUnit w ranges) units us
      → Each (λ x. x.root < length (all_entries w)) units
  have_roots ranges [] [] each = tt
  have_roots ranges [] (u ∷ us) each = absurd each
  have_roots ranges (x ∷ units) [] each = absurd each
  have_roots ranges (x ∷ units) (u ∷ us) each = (got_below (all_entries w) x.root (u.root, u.below) each.0.root, have_roots ranges units us each.1)

-- ---- all entries are among so many

abbrev Low : ℕ → List ℕ → Type 0
Low count list = Each (λ e. e < count) list

low_numbers : (count a n : ℕ) → a + n ≤ count → Low count (range_with_len a n)
low_numbers count a zero le = tt
low_numbers count a (suc n) le = (omega arith, low_numbers count (a + 1) n (omega arith))

low_ranges : (count : ℕ) (ranges : List SourceRange) → Each (IsRange count) ranges → Low count (flat_map range_entries ranges)
low_ranges count [] are = tt
low_ranges count (r ∷ ranges) are =
    let a = are.0.some in
    let b = are.0.within in
    each_append (λ e. e < count) (range_entries r) (flat_map range_entries ranges) (low_numbers count r.first (range_count r) (omega arith)) (low_ranges count ranges are.1)

low_units : (count : ℕ) (ranges : List SourceRange) → Each (IsRange count) ranges → (units : List NewUnit) → Each (λ x. x.root < count) units → Each (Low count) (map (unit_entries ranges) units)
low_units count ranges are [] roots = tt
low_units count ranges are (x ∷ units) roots =
    ((roots.0, low_ranges count (ranges_of ranges x) (each_part (IsRange count) ranges x.first x.end are)), low_units count ranges are units roots.1)

pub low_lists : (count : ℕ) (s : Sources) (starts : List ℕ) → HaveEntries count s starts → Each (Low count) (entry_lists s)
low_lists count s starts have = low_units count s.ranges have.ranges s.units have.roots

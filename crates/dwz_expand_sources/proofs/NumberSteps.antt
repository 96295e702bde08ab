-- The numbers of copies, range by range and unit by unit.
use Rattle.std.proofs.Common.{◌≡◌, ℕ, ◌+◌, ◌<◌, ◌≤◌, List, [], ◌∷◌, ◌++◌, drop, get_or, length, refl, sym, ap, ◌∙◌, arith}
use Rattle.std.proofs.lemmas.List.{append-nil, append_assoc, drop_all}
use Rattle.dwz_def_reading.proofs.ListFacts.{drop_pairs}
use Rattle.dwz_expand_sources.specs.declared.sources.NewUnit.{NewUnit}
use Rattle.dwz_expand_sources.specs.declared.sources.SourceRange.{SourceRange}
use Rattle.dwz_expand_sources.specs.Numbers.{copy_count, numbers_from, range_count, range_numbers, ranges_count, root_numbers, unit_count}
use Rattle.dwz_expand_sources.specs.Sources.{ranges_of}

-- ---- ranges

-- the numbers of the ranges behind the i-th are left
pub record RangesGo (ranges : List SourceRange) (from : ℕ) (old now : List ℕ) (i at : ℕ) : Type 0 where
  pub numbers : now ++ numbers_from at (drop i ranges) ≡ old ++ numbers_from from ranges
  pub behind : at + ranges_count (drop i ranges) ≡ from + ranges_count ranges

module _ (ranges : List SourceRange) (from : ℕ) (old : List ℕ) where
  pub ranges_begin : RangesGo ranges from old old 0 from
  ranges_begin = record { numbers = refl; behind = refl }

  pub range_room : (now : List ℕ) (i at : ℕ) (d : SourceRange) → RangesGo ranges from old now i at → i < length ranges → at + range_count (get_or ranges i d) ≤ from + ranges_count ranges
  unfolding ranges_count
  range_room now i at d g lt =
      let one : ranges_count (drop i ranges) ≡ range_count (get_or ranges i d) + ranges_count (drop (i + 1) ranges) = ap ranges_count (drop_pairs ranges i d lt) in
      let b = g.behind in
      omega arith

  pub range_on : (now new : List ℕ) (i at to : ℕ) (d : SourceRange) → RangesGo ranges from old now i at → i < length ranges → new ≡ now ++ at ∷ []
      → to ≡ at + range_count (get_or ranges i d) → RangesGo ranges from old new (i + 1) to
  unfolding ranges_count numbers_from
  range_on now new i at to d g lt put is =
      let r = get_or ranges i d in
      let left = drop (i + 1) ranges in
      let here : numbers_from at (drop i ranges) ≡ at ∷ numbers_from (at + range_count r) left = ap (numbers_from at) (drop_pairs ranges i d lt) in
      let one : ranges_count (drop i ranges) ≡ range_count r + ranges_count left = ap ranges_count (drop_pairs ranges i d lt) in
      let b = g.behind in
      record {
        numbers = (λ j. put j ++ numbers_from (is j) left) ∙ append_assoc now (at ∷ []) (numbers_from (at + range_count r) left) ∙ ap (λ (w : List ℕ). now ++ w) (sym here) ∙ g.numbers;
        behind = omega arith;
      }

  pub ranges_end : (now : List ℕ) (i at : ℕ) → RangesGo ranges from old now i at → length ranges ≤ i → now ≡ old ++ numbers_from from ranges
  unfolding numbers_from
  ranges_end now i at g le = sym (append-nil now) ∙ ap (λ (w : List SourceRange). now ++ numbers_from at w) (sym (drop_all i ranges le)) ∙ g.numbers

  pub ranges_behind : (now : List ℕ) (i at : ℕ) → RangesGo ranges from old now i at → length ranges ≤ i → at ≡ from + ranges_count ranges
  unfolding ranges_count
  ranges_behind now i at g le =
      let none : ranges_count (drop i ranges) ≡ 0 = ap ranges_count (drop_all i ranges le) in
      let b = g.behind in
      omega arith

-- ---- units

pub record UnitsNumbered (ranges : List SourceRange) (units : List NewUnit) (rs ns : List ℕ) (i at : ℕ) : Type 0 where
  pub roots : rs ++ root_numbers ranges at (drop i units) ≡ root_numbers ranges 0 units
  pub numbers : ns ++ range_numbers ranges at (drop i units) ≡ range_numbers ranges 0 units
  pub behind : at + copy_count ranges (drop i units) ≡ copy_count ranges units

module _ (ranges : List SourceRange) (units : List NewUnit) where
  pub units_begin : (roots numbers : List ℕ) → roots ≡ [] → numbers ≡ [] → UnitsNumbered ranges units roots numbers 0 0
  units_begin roots numbers a b = record {
    roots = ap (λ (w : List ℕ). w ++ root_numbers ranges 0 units) a;
    numbers = ap (λ (w : List ℕ). w ++ range_numbers ranges 0 units) b;
    behind = omega arith;
  }

  pub unit_room : (roots numbers : List ℕ) (i at : ℕ) (d : NewUnit) → UnitsNumbered ranges units roots numbers i at → i < length units
      → at + unit_count ranges (get_or units i d) ≤ copy_count ranges units
  unfolding copy_count
  unit_room roots numbers i at d g lt =
      let one : copy_count ranges (drop i units) ≡ unit_count ranges (get_or units i d) + copy_count ranges (drop (i + 1) units) = ap (copy_count ranges) (drop_pairs units i d lt) in
      let b = g.behind in
      omega arith

  pub unit_on : (roots more_roots numbers more : List ℕ) (i at to : ℕ) (d : NewUnit) → UnitsNumbered ranges units roots numbers i at → i < length units → more_roots ≡ roots ++ at ∷ []
      → more ≡ numbers ++ numbers_from (at + 1) (ranges_of ranges (get_or units i d)) → to ≡ at + 1 + ranges_count (ranges_of ranges (get_or units i d))
      → UnitsNumbered ranges units more_roots more (i + 1) to
  unfolding copy_count root_numbers range_numbers
  unit_on roots more_roots numbers more i at to d g lt rooted put is =
      let x = get_or units i d in
      let left = drop (i + 1) units in
      let first = drop_pairs units i d lt in
      let to_is : to ≡ at + unit_count ranges x = omega arith in
      let here : root_numbers ranges at (drop i units) ≡ at ∷ root_numbers ranges (at + unit_count ranges x) left = ap (root_numbers ranges at) first in
      let own = numbers_from (at + 1) (ranges_of ranges x) in
      let there : range_numbers ranges at (drop i units) ≡ own ++ range_numbers ranges (at + unit_count ranges x) left = ap (range_numbers ranges at) first in
      let one : copy_count ranges (drop i units) ≡ unit_count ranges x + copy_count ranges left = ap (copy_count ranges) first in
      let b = g.behind in
      record {
        roots = (λ j. rooted j ++ root_numbers ranges (to_is j) left) ∙ append_assoc roots (at ∷ []) (root_numbers ranges (at + unit_count ranges x) left)
            ∙ ap (λ (w : List ℕ). roots ++ w) (sym here) ∙ g.roots;
        numbers = (λ j. put j ++ range_numbers ranges (to_is j) left) ∙ append_assoc numbers own (range_numbers ranges (at + unit_count ranges x) left)
            ∙ ap (λ (w : List ℕ). numbers ++ w) (sym there) ∙ g.numbers;
        behind = omega arith;
      }

  pub roots_end : (roots numbers : List ℕ) (i at : ℕ) → UnitsNumbered ranges units roots numbers i at → length units ≤ i → roots ≡ root_numbers ranges 0 units
  unfolding root_numbers
  roots_end roots numbers i at g le = sym (append-nil roots) ∙ ap (λ (w : List NewUnit). roots ++ root_numbers ranges at w) (sym (drop_all i units le)) ∙ g.roots

  pub numbers_end : (roots numbers : List ℕ) (i at : ℕ) → UnitsNumbered ranges units roots numbers i at → length units ≤ i → numbers ≡ range_numbers ranges 0 units
  unfolding range_numbers
  numbers_end roots numbers i at g le = sym (append-nil numbers) ∙ ap (λ (w : List NewUnit). numbers ++ range_numbers ranges at w) (sym (drop_all i units le)) ∙ g.numbers

-- The numbers with which the copies of units begin.
use Rattle.std.proofs.Common.{◌≡◌, ℕ, zero, suc, ◌+◌, ◌<◌, ◌≤◌, List, [], ◌∷◌, length, map, get_or, take, refl, ap, arith, length-append}
use Rattle.std.specs.List.{flat_map, sum_by}
use Rattle.std.proofs.lemmas.List.FromFn.{length-range_with_len}
use Rattle.std.proofs.lemmas.List.Sums.{sum_by-cons}
use Rattle.dwz_expand_sources.specs.declared.sources.NewUnit.{NewUnit}
use Rattle.dwz_expand_sources.specs.declared.sources.SourceRange.{SourceRange}
use Rattle.dwz_expand_sources.specs.Numbers.{copy_count, range_count, ranges_count, root_numbers, unit_count}
use Rattle.dwz_expand_sources.specs.Sources.{ranges_of}
use Rattle.dwz_expand_sources.specs.Rows.{range_entries, unit_entries}

pub ranges_long : (ranges : List SourceRange) → length (flat_map range_entries ranges) ≡ ranges_count ranges
unfolding ranges_count
ranges_long [] = refl
ranges_long (r ∷ ranges) = omega (arith, length-append (range_entries r) (flat_map range_entries ranges), length-range_with_len r.first (range_count r), ranges_long ranges)

pub roots_long : (ranges : List SourceRange) (at : ℕ) (units : List NewUnit) → length (root_numbers ranges at units) ≡ length units
unfolding root_numbers
roots_long ranges at [] = refl
roots_long ranges at (x ∷ units) = ap suc (roots_long ranges (at + unit_count ranges x) units)

abbrev pub many : List (List ℕ) → ℕ
many lists = sum_by (λ (list : List ℕ). length list) lists

pub record Starts (ranges : List SourceRange) (at : ℕ) (units : List NewUnit) (n : ℕ) (d : NewUnit) : Type 0 where
  pub start : get_or (root_numbers ranges at units) n 0 ≡ at + many (take n (map (unit_entries ranges) units))
  pub room : get_or (root_numbers ranges at units) n 0 + unit_count ranges (get_or units n d) ≤ at + copy_count ranges units

pub starts_at : (ranges : List SourceRange) (at : ℕ) (units : List NewUnit) (n : ℕ) (d : NewUnit) → n < length units → Starts ranges at units n d
unfolding root_numbers copy_count
starts_at ranges at [] n d lt = absurd (omega arith)
starts_at ranges at (x ∷ units) zero d lt = record { start = omega arith; room = omega arith }
starts_at ranges at (x ∷ units) (suc n) d lt =
    let r = starts_at ranges (at + unit_count ranges x) units n d (omega arith) in
    let a = r.start in
    let b = r.room in
    let long = ranges_long (ranges_of ranges x) in
    let cons : many (unit_entries ranges x ∷ take n (map (unit_entries ranges) units)) ≡ length (unit_entries ranges x) + many (take n (map (unit_entries ranges) units)) =
    sum_by-cons (λ (list : List ℕ). length list) (unit_entries ranges x) (take n (map (unit_entries ranges) units)) in
    record { start = omega arith; room = omega arith }

-- What a row has at each entry, once the copies of some are noted.
use Rattle.std.proofs.Common.{◌≡◌, ℕ, suc, ◌+◌, ◌-◌, ◌<◌, ◌≤◌, Bool, true, false, List, [], ◌∷◌, ◌++◌, length, get_or, set, drop, Some, slice_get, refl, sym, ap, ◌∙◌, arith}
use Rattle.std.specs.Prelude.{◌==◌}
use Rattle.std.specs.List.{flat_map, range_with_len}
use Rattle.std.proofs.lemmas.Bool.{eqb-false, eqb-true}
use Rattle.std.proofs.lemmas.List.FromFn.{length-range_with_len}
use Rattle.std.proofs.lemmas.List.{drop_all, get_or-set_other, get_or-set_same, length-set}
use Rattle.dwz_model.proofs.ListFacts.{drop_pairs}
use Rattle.dwz_def_encoding.specs.Placing.{has_key}
use Rattle.dwz_imports.specs.Imports.{same}
use Rattle.dwz_expand_sources.specs.declared.sources.SourceRange.{SourceRange}
use Rattle.dwz_expand_sources.specs.Numbers.{range_count, ranges_count}
use Rattle.dwz_expand_sources.specs.Rows.{copy_at, noted, range_entries, with_root}
use Rattle.dwz_expand_sources.specs.declared.copies.CopyAt.{CopyAt}

pub noted_append : (unit number : ℕ) (a b : List ℕ) (row : List CopyAt) → noted unit number (a ++ b) row ≡ noted unit (number + length a) b (noted unit number a row)
unfolding noted
noted_append unit number [] b row = (let e : number ≡ number + 0 = omega arith in ap (λ (n : ℕ). noted unit n b row) e)
noted_append unit number (e ∷ a) b row =
    let to : number + 1 + length a ≡ number + suc (length a) = omega arith in
    noted_append unit (number + 1) a b (set row e (copy_at unit number))
    ∙ ap (λ (n : ℕ). noted unit n b (noted unit (number + 1) a (set row e (copy_at unit number)))) to

pub noted_long : (unit number : ℕ) (entries : List ℕ) (row : List CopyAt) → length (noted unit number entries row) ≡ length row
unfolding noted
noted_long unit number [] row = refl
noted_long unit number (e ∷ entries) row = noted_long unit (number + 1) entries (set row e (copy_at unit number)) ∙ length-set row e (copy_at unit number)

pub noted_other : (unit number : ℕ) (entries : List ℕ) (row : List CopyAt) (i : ℕ) (d : CopyAt) → has_key same i entries ≡ false
    → get_or (noted unit number entries row) i d ≡ get_or row i d
unfolding noted has_key
noted_other unit number [] row i d h = refl
noted_other unit number (e ∷ entries) row i d h = by (e == i) refl h (λ k. noted_other unit (number + 1) entries (set row e (copy_at unit number)) i d k) where
  new : List CopyAt
  new = set row e (copy_at unit number)

  by : (t : Bool) → (e == i) ≡ t → (elim t as (λ _. Bool) [ true ↦ true | false ↦ has_key same i entries ]) ≡ false
      → (has_key same i entries ≡ false → get_or (noted unit (number + 1) entries new) i d ≡ get_or new i d)
      → get_or (noted unit (number + 1) entries new) i d ≡ get_or row i d
  by true is r more = absurd cc
  by false is r more = more r ∙ get_or-set_other row e i (copy_at unit number) d (λ (x : i ≡ e). eqb-false e i is (sym x))

-- a copy of the entry is there
pub record Noted (unit number : ℕ) (entries : List ℕ) (i : ℕ) (c : CopyAt) : Type 0 where
  pub before : ℕ
  pub is : c ≡ copy_at unit (number + before)
  pub stands : slice_get entries before ≡ Some i

pub noted_own : (unit number : ℕ) (entries : List ℕ) (row : List CopyAt) (i : ℕ) (d : CopyAt) → i < length row → has_key same i entries ≡ true
    → Noted unit number entries i (get_or (noted unit number entries row) i d)
unfolding noted has_key
noted_own unit number [] row i d lt h = absurd cc
noted_own unit number (e ∷ entries) row i d lt h =
    by (has_key same i entries) refl
    (λ k. noted_own unit (number + 1) entries new i d (let long = length-set row e (copy_at unit number) in omega arith) k)
    (λ k. noted_other unit (number + 1) entries new i d k)
  where
    new : List CopyAt
    new = set row e (copy_at unit number)

    first : (t : Bool) → (e == i) ≡ t → (elim t as (λ _. Bool) [ true ↦ true | false ↦ has_key same i entries ]) ≡ true → has_key same i entries ≡ false → e ≡ i
    first true is r none = eqb-true e i is
    first false is r none = absurd cc

    by : (t : Bool) → has_key same i entries ≡ t → (has_key same i entries ≡ true → Noted unit (number + 1) entries i (get_or (noted unit (number + 1) entries new) i d))
        → (has_key same i entries ≡ false → get_or (noted unit (number + 1) entries new) i d ≡ get_or new i d)
        → Noted unit number (e ∷ entries) i (get_or (noted unit (number + 1) entries new) i d)
    by true is own other =
        let r = own is in
        let to : number + 1 + r.before ≡ number + suc r.before = omega arith in
        record { before = suc r.before; is = r.is ∙ ap (λ (n : ℕ). copy_at unit n) to; stands = r.stands }
    by false is own other =
        let at : e ≡ i = first (e == i) refl h is in
        let here : get_or new e d ≡ copy_at unit number = get_or-set_same row e (copy_at unit number) d (omega arith) in
        let zero_on : number ≡ number + 0 = omega arith in
        record {
          before = 0;
          is = other is ∙ ap (λ (k : ℕ). get_or new k d) (sym at) ∙ here ∙ ap (λ (n : ℕ). copy_at unit n) zero_on;
          stands = ap (λ (k : ℕ). Some k) at;
        }

-- ---- entry by entry of a range

pub range_on : (unit at entry end : ℕ) (row : List CopyAt) → entry < end
    → noted unit (at + 1) (range_with_len (entry + 1) (end - (entry + 1))) (set row entry (copy_at unit at)) ≡ noted unit at (range_with_len entry (end - entry)) row
unfolding noted
range_on unit at entry end row lt =
    let more : end - entry ≡ suc (end - (entry + 1)) = omega arith in
    sym (ap (λ (k : ℕ). noted unit at (range_with_len entry k) row) more)

pub range_end : (unit at entry end : ℕ) (row : List CopyAt) → end ≤ entry → row ≡ noted unit at (range_with_len entry (end - entry)) row
unfolding noted
range_end unit at entry end row le =
    let none : end - entry ≡ 0 = omega arith in
    sym (ap (λ (k : ℕ). noted unit at (range_with_len entry k) row) none)

-- ---- range by range

pub ranges_on : (unit at : ℕ) (r : SourceRange) (ranges : List SourceRange) (row : List CopyAt)
    → noted unit (at + range_count r) (flat_map range_entries ranges) (noted unit at (range_entries r) row) ≡ noted unit at (flat_map range_entries (r ∷ ranges)) row
ranges_on unit at r ranges row =
    ap (λ (n : ℕ). noted unit (at + n) (flat_map range_entries ranges) (noted unit at (range_entries r) row)) (sym (length-range_with_len r.first (range_count r)))
    ∙ sym (noted_append unit at (range_entries r) (flat_map range_entries ranges) row)

-- the ranges behind the i-th are left
pub record RangesLeft (unit number root at : ℕ) (ranges : List SourceRange) (i : ℕ) (old row : List CopyAt) : Type 0 where
  pub number_is : at + ranges_count (drop i ranges) ≡ number + 1 + ranges_count ranges
  pub len : length row ≡ length old
  pub row_is : noted unit at (flat_map range_entries (drop i ranges)) row ≡ noted unit number (with_root root ranges) old

module _ (unit number root : ℕ) (ranges : List SourceRange) (old : List CopyAt) where
  pub ranges_begin : (row : List CopyAt) → row ≡ set old root (copy_at unit number) → RangesLeft unit number root (number + 1) ranges 0 old row
  unfolding noted
  ranges_begin row e = record {
    number_is = refl;
    len = ap (λ (w : List CopyAt). length w) e ∙ length-set old root (copy_at unit number);
    row_is = ap (λ (w : List CopyAt). noted unit (number + 1) (flat_map range_entries ranges) w) e;
  }

  pub range_room : (at i : ℕ) (row : List CopyAt) (d : SourceRange) → RangesLeft unit number root at ranges i old row → i < length ranges
      → at + range_count (get_or ranges i d) ≤ number + 1 + ranges_count ranges
  unfolding ranges_count
  range_room at i row d g lt =
      let one : ranges_count (drop i ranges) ≡ range_count (get_or ranges i d) + ranges_count (drop (i + 1) ranges) = ap ranges_count (drop_pairs ranges i d lt) in
      let b = g.number_is in
      omega arith

  pub ranges_next : (at to i : ℕ) (row new : List CopyAt) (d : SourceRange) → RangesLeft unit number root at ranges i old row → i < length ranges
      → new ≡ noted unit at (range_entries (get_or ranges i d)) row → to ≡ at + range_count (get_or ranges i d) → RangesLeft unit number root to ranges (i + 1) old new
  unfolding ranges_count
  ranges_next at to i row new d g lt e is =
      let r = get_or ranges i d in
      let left = drop (i + 1) ranges in
      let first = drop_pairs ranges i d lt in
      let one : ranges_count (drop i ranges) ≡ range_count r + ranges_count left = ap ranges_count first in
      let b = g.number_is in
      record {
        number_is = omega arith;
        len = ap (λ (w : List CopyAt). length w) e ∙ noted_long unit at (range_entries r) row ∙ g.len;
        row_is = (λ j. noted unit (is j) (flat_map range_entries left) (e j)) ∙ ranges_on unit at r left row
            ∙ ap (λ (w : List SourceRange). noted unit at (flat_map range_entries w) row) (sym first) ∙ g.row_is;
      }

  pub ranges_end : (at i : ℕ) (row : List CopyAt) → RangesLeft unit number root at ranges i old row → length ranges ≤ i → row ≡ noted unit number (with_root root ranges) old
  unfolding noted
  ranges_end at i row g le = sym (ap (λ (w : List SourceRange). noted unit at (flat_map range_entries w) row) (drop_all i ranges le)) ∙ g.row_is

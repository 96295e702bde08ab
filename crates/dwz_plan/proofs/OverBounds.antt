-- Bounds of what is planned over a common file.
use Rattle.std.proofs.Common.{◌≡◌, ℕ, zero, suc, ◌+◌, ◌<◌, ◌≤◌, ◌∙◌, inl, inr, not, cond, All, Bool, true, false, List, [], ◌∷◌, length, take, filter, get_or, sym, ap, subst, arith}
use Rattle.std.specs.Prelude.{nat_le}
use Rattle.std.specs.List.{range_with_len}
use Rattle.std.proofs.lemmas.Bool.Decides.{leb_tells}
use Rattle.std.proofs.lemmas.List.{length-take-le, take_all}
use Rattle.std.proofs.lemmas.List.Elements.{All-cons, All-head, All-nil, All-tail}
use Rattle.std.proofs.lemmas.List.FromFn.{length-map-range_with_len}
use Rattle.dwz_def_reading.specs.Lists.{In}
use Rattle.dwz_def_reading.specs.Rows.{has}
use Rattle.dwz_def_taken.specs.declared.fixed.Fixed.{Fixed}
use Rattle.dwz_def_taken.specs.Takes.{is_free}
use Rattle.dwz_def_tops.proofs.Members.{in_map_from}
use Rattle.dwz_groups.specs.declared.tops.TopRow.{TopRow}
use Rattle.dwz_groups.specs.declared.tops.Tops.{Tops}
use Rattle.dwz_plan.specs.declared.plan.Partial.{Partial}
use Rattle.dwz_plan.specs.declared.plan.Scope.TheVariants.{Each}
use Rattle.dwz_plan.specs.Over.{count_own, free_row, free_rows, free_tops, given_free, own_count, own_units, standing_part, standing_parts, takers_from}
use Rattle.dwz_plan.specs.Rows.{given, with_targets}
use Rattle.dwz_plan.proofs.BridgeLemmas.{numbers_are}
use Rattle.dwz_plan.proofs.KeptLemmas.{OnceAt, once_range}
use Rattle.dwz_plan.proofs.OverParts.{takers_are}
use Rattle.dwz_plan.proofs.OverRows.{length-free_rows}

-- ---- the rows of the files

one_more : (k : ℕ) → 1 + k ≡ suc k
one_more k = omega arith

pub count_low : (u : ℕ) (rows : List TopRow) → count_own u rows ≤ length rows
count_low u [] = omega arith
count_low u (r ∷ rows) = by (not (nat_le u r.unit)) (count_low u rows)
  where
    by : (b : Bool) → count_own u rows ≤ length rows → cond b (1 + count_own u rows) 0 ≤ suc (length rows)
    by true l = omega arith
    by false l = omega arith

pub own_below : (u : ℕ) (rows : List TopRow) → All (λ r. r.unit < u) (take (count_own u rows) rows)
own_below u [] = All-nil (λ (r : TopRow). r.unit < u)
own_below u (r ∷ rows) = elim (leb_tells u r.unit) [
  | inl l ↦ subst (λ (b : Bool). All (λ r. r.unit < u) (take (cond (not b) (1 + count_own u rows) 0) (r ∷ rows))) (sym l.0) (All-nil (λ (r : TopRow). r.unit < u))
  | inr l ↦ subst (λ (b : Bool). All (λ r. r.unit < u) (take (cond (not b) (1 + count_own u rows) 0) (r ∷ rows))) (sym l.0)
      (subst (λ (k : ℕ). All (λ r. r.unit < u) (take k (r ∷ rows))) (sym (one_more (count_own u rows)))
      (All-cons (λ (r : TopRow). r.unit < u) r (take (count_own u rows) rows) l.1 (own_below u rows)))
]

pub free_below : (fixed : Fixed) (u n : ℕ) (rows : List TopRow) → All (λ r. r.unit < u) rows → All (λ r. r.unit < u) (free_rows fixed n rows)
unfolding free_rows
free_below fixed u n [] all = All-nil (λ (r : TopRow). r.unit < u)
free_below fixed u n (r ∷ rows) all = All-cons (λ (r : TopRow). r.unit < u) (free_row (is_free fixed n) r) (free_rows fixed (suc n) rows) (All-head (λ (r : TopRow). r.unit < u) r rows all)
    (free_below fixed u (suc n) rows (All-tail (λ (r : TopRow). r.unit < u) r rows all))

-- ---- takers

pub takers_low : (part s n : ℕ) (takes : List (List ℕ)) → s + length takes ≤ n → All (λ u. u < n) (takers_from part s takes)
unfolding takers_from
takers_low part s n [] l = All-nil (λ u. u < n)
takers_low part s n (parts ∷ takes) l = by (has part parts) (takers_low part (suc s) n takes (omega arith))
  where
    by : (b : Bool) → All (λ u. u < n) (takers_from part (suc s) takes) → All (λ u. u < n) (cond b (s ∷ takers_from part (suc s) takes) (takers_from part (suc s) takes))
    by true more = All-cons (λ u. u < n) s (takers_from part (suc s) takes) (omega arith) more
    by false more = more

pub takers_once : (part : ℕ) (takes : List (List ℕ)) → OnceAt (takers_from part 0 takes)
takers_once part takes =
    let test : ℕ → Bool = λ u. has part (get_or takes u []) in
    let is : filter test (range_with_len 0 (length takes)) ≡ takers_from part 0 takes =
    ap (filter test) (sym (numbers_are 0 takes))
    ∙ (takers_are part (λ u. get_or takes u []) 0 takes takes (omega arith) (λ k low. (let z : 0 + k ≡ k = omega arith in ap (λ u. get_or takes u []) z))
    ∙ ap (takers_from part 0) (take_all (length takes) takes (omega arith))) in
    subst (λ (us : List ℕ). OnceAt us) is (λ n unit. once_range test 0 (length takes) n unit)

length-take-few : (k : ℕ) (xs : List (List ℕ)) → length (take k xs) ≤ k
length-take-few zero xs = omega arith
length-take-few (suc k) [] = omega arith
length-take-few (suc k) (x ∷ xs) = let l = length-take-few k xs in omega arith

-- ---- the free tops

module _ (tops : Tops) (fixed : Fixed) (free : Tops) (is : with_targets (take (own_count tops fixed) tops.targets) free ≡ free_tops tops fixed) where
  pub free_count : length free.rows ≡ own_count tops fixed
  free_count =
      ap (λ (t : Tops). length t.rows) is ∙ (length-free_rows fixed 0 (take (own_count tops fixed) tops.rows)
      ∙ length-take-le (own_count tops fixed) tops.rows (count_low (own_units tops fixed) tops.rows))

  pub free_few : length free.rows ≤ length tops.rows
  free_few = omega (arith, free_count, count_low (own_units tops fixed) tops.rows)

  pub free_units : length free.files_of_units ≡ own_units tops fixed
  free_units = ap (λ (t : Tops). length t.files_of_units) is ∙ length-take-le (own_units tops fixed) tops.files_of_units (omega arith)

  pub free_of_units : All (λ r. r.unit < length free.files_of_units) free.rows
  free_of_units =
      subst (λ (n : ℕ). All (λ r. r.unit < n) free.rows) (sym free_units)
      (subst (λ (rs : List TopRow). All (λ r. r.unit < own_units tops fixed) rs) (sym (ap (λ (t : Tops). t.rows) is))
      (free_below fixed (own_units tops fixed) 0 (take (own_count tops fixed) tops.rows) (own_below (own_units tops fixed) tops.rows)))

  pub free_files : All (λ file. file < tops.files) (take (own_units tops fixed) tops.files_of_units) → All (λ file. file < free.files) free.files_of_units
  free_files all = subst (λ (t : Tops). All (λ file. file < t.files) t.files_of_units) (sym is) all

  pub free_given : (least low : List ℕ) → low ≡ take (length free.rows) least → given Each (with_targets (take (own_count tops fixed) tops.targets) free) low ≡ given_free tops least fixed
  free_given least low low_is = (λ i. given Each (is i) ((low_is ∙ ap (λ k. take k least) free_count) i))

-- ---- the partial units of the common file

module _ (tops : Tops) (fixed : Fixed) where
  pub length-standing : length (standing_parts tops fixed) ≡ length fixed.roots
  unfolding standing_parts
  length-standing = length-map-range_with_len (standing_part tops fixed) 0 (length fixed.roots)

  -- of each of them, as of each number
  pub standing_in : (part : Partial) → In part (standing_parts tops fixed) → (n : ℕ) × (standing_part tops fixed n ≡ part)
  unfolding standing_parts
  standing_in part there = let o = in_map_from (standing_part tops fixed) part (range_with_len 0 (length fixed.roots)) there in (o.source, o.is)

  pub standing_users : (n : ℕ) → length tops.files_of_units ≤ n → (part : Partial) → In part (standing_parts tops fixed) → All (λ u. u < n) part.users
  standing_users n l part there =
      let o = standing_in part there in
      let few : length (take (own_units tops fixed) fixed.takes) ≤ own_units tops fixed = omega (arith, length-take-few (own_units tops fixed) fixed.takes) in
      subst (λ (p : Partial). All (λ u. u < n) p.users) o.1 (takers_low o.0 0 n (take (own_units tops fixed) fixed.takes) (omega (arith, few, l)))

  pub standing_once : (part : Partial) → In part (standing_parts tops fixed) → OnceAt part.users
  standing_once part there = let o = standing_in part there in subst (λ (p : Partial). OnceAt p.users) o.1 (takers_once o.0 (take (own_units tops fixed) fixed.takes))

-- The copies by their numbers: which copy a number is, and that a number of a copy in a unit is one of all.
use Rattle.std.proofs.Common.{◌≡◌, ◌⊎◌, ℕ, zero, suc, ◌+◌, ◌<◌, ◌≤◌, List, [], ◌∷◌, ◌++◌, get_or, inl, inr, length, map, slice_get, take, Option, None, Some, refl, ap, ◌∙◌, arith}
use Rattle.std.specs.List.{sum_by}
use Rattle.std.specs.Prelude.{unwrap_or}
use Rattle.std.proofs.lemmas.List.{get_or-append-add, get_or-map, get_or_append_left, get_or_past, length-append, length-map}
use Rattle.std.proofs.lemmas.List.Sums.{sum_by-cons}
use Rattle.dwz_def_cross.specs.Tops.{WithCommon}
use Rattle.dwz_def_expand.proofs.WholeLemmas.{unit_at}
use Rattle.dwz_def_expand.specs.Source.{Copy, copy, source_places, unit_for}
use Rattle.std.proofs.lemmas.Bool.{cases_lt}
use Rattle.dwz_expand_sources.specs.Imports.{same}
use Rattle.dwz_model.proofs.ListFacts.{got_below, got_index_or}
use Rattle.dwz_model.proofs.Members.{nth_below}
use Rattle.dwz_expand_passes.proofs.StandLemmas.{same_test}
use Rattle.dwz_expand_passes.specs.CopiesOf.{named_copy}
use Rattle.dwz_expand_passes.specs.Numbered.{NumbersLaw, copies_from, key_in}

abbrev pub lengths : List (List ℕ) → ℕ
lengths units = sum_by (λ (places : List ℕ). length places) units

pub copies_many : (n : ℕ) (units : List (List ℕ)) → length (copies_from n units) ≡ lengths units
unfolding copies_from
copies_many n [] = refl
copies_many n (places ∷ units) =
    omega (
      arith,
      length-append (map (copy n) places) (copies_from (suc n) units),
      length-map places (copy {P = ℕ} n),
      copies_many (suc n) units,
      sum_by-cons (λ (xs : List ℕ). length xs) places units,
    )

-- the copy at an index of a unit's
nth_copy : (d : Copy ℕ) (n : ℕ) (units : List (List ℕ)) (unit before source : ℕ) → slice_get (get_or units unit []) before ≡ Some source
    → get_or (copies_from n units) (lengths (take unit units) + before) d ≡ copy (n + unit) source
unfolding copies_from
nth_copy d n [] zero before source found = absurd cc
nth_copy d n [] (suc unit) before source found = absurd cc
nth_copy d n (places ∷ units) zero before source found =
    let lt : before < length places = got_below places before source found in
    let long : before < length (map (copy {P = ℕ} n) places) = omega (arith, lt, length-map places (copy {P = ℕ} n)) in
    let index : 0 + before ≡ before = omega arith in
    let unit : n ≡ n + 0 = omega arith in
    ap (λ (i : ℕ). get_or (map (copy n) places ++ copies_from (suc n) units) i d) index
    ∙ get_or_append_left (map (copy n) places) (copies_from (suc n) units) d before long
    ∙ get_or-map (copy n) places before 0 d lt
    ∙ ap (copy n) (got_index_or places before source 0 found)
    ∙ ap (λ (u : ℕ). copy u source) unit
nth_copy d n (places ∷ units) (suc unit) before source found =
    let first = map (copy {P = ℕ} n) places in
    let rest = lengths (take unit units) + before in
    let index : lengths (take (suc unit) (places ∷ units)) + before ≡ length first + rest =
    omega (arith, sum_by-cons (λ (xs : List ℕ). length xs) places (take unit units), length-map places (copy {P = ℕ} n)) in
    let next : suc n + unit ≡ n + suc unit = omega arith in
    ap (λ (i : ℕ). get_or (first ++ copies_from (suc n) units) i d) index
    ∙ get_or-append-add first (copies_from (suc n) units) rest d
    ∙ nth_copy d (suc n) units unit before source found
    ∙ ap (λ (u : ℕ). copy u source) next

pub numbers_law : NumbersLaw
numbers_law w unit source before found =
    let first : 0 + unit ≡ unit = omega arith in
    nth_copy (copy (length (source_places same w)) 0) 0 (source_places same w) unit before source found ∙ ap (λ (u : ℕ). copy u source) first

-- ---- numbers of copies that are there

module _ (w : WithCommon ℕ) where
  abbrev units : List (List ℕ)
  units = source_places same w

  pub one_of_all : (number : ℕ) → (key_in w number).unit < length (source_places same w) → number < lengths (source_places same w)
  one_of_all number lt = by (cases_lt number (lengths (source_places same w))) where
    by : (number < lengths (source_places same w)) ⊎ (lengths (source_places same w) ≤ number) → number < lengths (source_places same w)
    by (inl less) = less
    by (inr le) =
        let all = copies_from 0 (source_places same w) in
        let d : Copy ℕ = copy (length (source_places same w)) 0 in
        let last : get_or all number d ≡ d = get_or_past all number d (omega (arith, le, copies_many 0 (source_places same w))) in
        let unit = ap (λ (k : Copy ℕ). k.unit) last in
        absurd (omega (arith, lt, unit))

  -- what the n-th unit names stands in one of the units
  pub named_in : (n p : ℕ) → n < length (source_places same w) → (named_copy w n p).unit < length (source_places same w)
  named_in n p lt = by (unit_for same (source_places same w) n p) refl where
    by : (o : Option ℕ) → unit_for same (source_places same w) n p ≡ o → unwrap_or o n < length (source_places same w)
    by None e = lt
    by (Some m) e =
        let there = unit_at same same_test (source_places same w) n p m e in
        omega (arith, nth_below 0 (source_places same w) m there.list there.nth)

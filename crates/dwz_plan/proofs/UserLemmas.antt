-- The users of those who stand for others, by the steps and by the rows.
use Rattle.std.proofs.Common.{◌≡◌, ℕ, suc, ◌==◌, ◌&&◌, ◌||◌, cond, Bool, true, false, List, [], ◌∷◌, length, map, filter, refl, sym, ap, ◌∙◌}
use Rattle.std.specs.List.{list_any, range_with_len, zip}
use Rattle.std.proofs.lemmas.List.Elements.{filter_agree}
use Rattle.dwz_def_reading.specs.Lists.{In}
use Rattle.dwz_groups.specs.declared.tops.TopRow.{TopRow}
use Rattle.dwz_groups.specs.declared.tops.Tops.{Tops}
use Rattle.dwz_plan.specs.declared.plan.Scope.{Scope}
use Rattle.dwz_plan.specs.Planned.{alike, rep, reps_of, users}
use Rattle.dwz_plan.specs.Rows.{TopFacts, given, row_of, rows_from}
use Rattle.dwz_plan.specs.Steps.{keys_under, pair, unit_pairs}
use Rattle.dwz_groups.specs.declared.groups.Edge.{Edge}
use Rattle.dwz_plan.proofs.ListFacts.{any_in, any_not, filter_no}
use Rattle.dwz_plan.proofs.LedLemmas.{Counted, is_led, led_is, led_none, rows_counted}

any_pairs : (f : TopFacts → ℕ) (files : List ℕ) (s : ℕ) (tops : List TopRow) (least : List ℕ) (k v : ℕ)
    → list_any (λ p. p.key == k && p.value == v) (unit_pairs tops (map f (rows_from files s tops least))) ≡ list_any (λ b. b.unit == k && (b.movable && f b == v)) (rows_from files s tops least)
unfolding unit_pairs rows_from
any_pairs f files s [] least k v = refl
any_pairs f files s (t ∷ tops) [] k v = refl
any_pairs f files s (t ∷ tops) (l ∷ least) k v = by t.movable (any_pairs f files (suc s) tops least k v)
  where
    test : Edge → Bool
    test p = p.key == k && p.value == v

    rest : List (TopRow × ℕ)
    rest = filter (λ (p : TopRow × ℕ). p.0.movable) (zip tops (map f (rows_from files (suc s) tops least)))

    fixed : (u : Bool) → (u && false) ≡ false
    fixed true = refl
    fixed false = refl

    by : (m : Bool) → list_any test (unit_pairs tops (map f (rows_from files (suc s) tops least))) ≡ list_any (λ b. b.unit == k && (b.movable && f b == v)) (rows_from files (suc s) tops least)
        → list_any test (map (λ (p : TopRow × ℕ). pair p.0.unit p.1) (cond m ((t, f (row_of files s t l)) ∷ rest) rest))
        ≡ ((t.unit == k && (m && f (row_of files s t l) == v)) || list_any (λ b. b.unit == k && (b.movable && f b == v)) (rows_from files (suc s) tops least))
    by true more = ap (λ u. (t.unit == k && f (row_of files s t l) == v) || u) more
    by false more = more ∙ ap (λ u. u || list_any (λ b. b.unit == k && (b.movable && f b == v)) (rows_from files (suc s) tops least)) (sym (fixed (t.unit == k)))

-- the users of the row with a number, by the steps
abbrev pub led_users : Tops → List ℕ → Scope → ℕ → List ℕ
led_users tops least scope n = keys_under (length tops.files_of_units) (unit_pairs tops.rows (reps_of (given scope tops least))) n

module _ (scope : Scope) (tops : Tops) (least : List ℕ) where
  rows_are : Counted 0 (rows_from tops.files_of_units 0 tops.rows least)
  rows_are = rows_counted tops.files_of_units 0 tops.rows least

  keys_are : (k v : ℕ) → list_any (λ p. p.key == k && p.value == v) (unit_pairs tops.rows (reps_of (given scope tops least))) ≡ list_any (λ b. b.unit == k && is_led (given scope tops least) v b)
      (rows_from tops.files_of_units 0 tops.rows least)
  keys_are k v = any_pairs (rep (given scope tops least)) tops.files_of_units 0 tops.rows least k v

  pub led_users_yes : (a : TopFacts) → In a (rows_from tops.files_of_units 0 tops.rows least) → rep (given scope tops least) a ≡ a.number
      → led_users tops least scope a.number ≡ users (given scope tops least) a
  unfolding keys_under users
  led_users_yes a is leads =
      filter_agree (λ k. list_any (λ p. p.key == k && p.value == a.number) (unit_pairs tops.rows (reps_of (given scope tops least))))
      (λ unit. list_any (λ b. b.unit == unit && alike scope a b) (rows_from tops.files_of_units 0 tops.rows least))
      (λ k. keys_are k a.number ∙ any_in (λ b. b.unit == k && is_led (given scope tops least) a.number b) (λ b. b.unit == k && alike scope a b) (rows_from tops.files_of_units 0 tops.rows least)
      (λ b there. ap (λ t. b.unit == k && t) (led_is (given scope tops least) 0 rows_are a b is there leads)))
      (range_with_len 0 (length tops.files_of_units))

  pub led_users_no : (a : TopFacts) → In a (rows_from tops.files_of_units 0 tops.rows least) → (rep (given scope tops least) a ≡ a.number → ⊥) → led_users tops least scope a.number ≡ []
  unfolding keys_under
  led_users_no a is other =
      filter_no (λ k. list_any (λ p. p.key == k && p.value == a.number) (unit_pairs tops.rows (reps_of (given scope tops least)))) (range_with_len 0 (length tops.files_of_units))
      (λ k here. keys_are k a.number ∙ any_not (λ b. b.unit == k && is_led (given scope tops least) a.number b) (rows_from tops.files_of_units 0 tops.rows least)
      (λ b there. by (b.unit == k) (led_none (given scope tops least) 0 rows_are a b is there other)))
    where
      by : (t : Bool) {u : Bool} → u ≡ false → (t && u) ≡ false
      by true e = e
      by false e = refl

-- What is kept and imported, by the steps and by the rows.
use Rattle.std.proofs.Common.{◌≡◌, ℕ, zero, suc, ◌+◌, ◌<◌, ◌==◌, ◌&&◌, ◌⊎◌, inl, inr, not, cond, Bool, true, false, List, [], ◌∷◌, ◌++◌, length, map, filter, refl, sym, ap, subst, ◌∙◌, arith, eq-eqb}
use Rattle.std.specs.List.{flat_map, list_any, range_with_len}
use Rattle.std.proofs.lemmas.Bool.{cases_eq, ne_eqb}
use Rattle.dwz_def_reading.specs.Lists.{In}
use Rattle.dwz_def_reading.specs.Rows.{has}
use Rattle.dwz_def_reading.proofs.ListFacts.{in_cases}
use Rattle.dwz_groups.specs.declared.tops.TopRow.{TopRow}
use Rattle.dwz_groups.specs.declared.tops.Tops.{Tops}
use Rattle.dwz_def_plan.specs.Homes.{Common, Home, Local}
use Rattle.dwz_def_plan.specs.Plan.{distinct}
use Rattle.dwz_def_plan.proofs.PlanLemmas.{distinct_in}
use Rattle.dwz_plan.specs.declared.plan.Home.{Home as Place}
use Rattle.dwz_plan.specs.declared.plan.Partial.{Partial}
use Rattle.dwz_plan.specs.declared.plan.Scope.{Scope}
use Rattle.dwz_groups.specs.Groups.{values_at}
use Rattle.dwz_plan.specs.Planned.{alike, imports_from, numbers, partial_with, partials, partials_at, representatives, users}
use Rattle.dwz_plan.specs.Rows.{Given, TopFacts, given, row_of, rows_from}
use Rattle.dwz_plan.specs.Steps.{is_in_unit, pair, same_bool, staying_one, staying_pairs, turned}
use Rattle.dwz_groups.specs.declared.groups.Edge.{Edge}
use Rattle.dwz_plan.proofs.TurnedLemmas.{repeats, values-turned_one, values_at-append}
use Rattle.dwz_def_tops.proofs.Members.{in_map_from}

-- ---- what stays

values_one : (t : Bool) (u n k : ℕ) → values_at (cond t (pair u n ∷ []) []) k ≡ cond (t && u == k) (n ∷ []) []
unfolding values_at
values_one true u n k = by (u == k)
  where
    by : (b : Bool) → map (λ (p : Edge). p.value) (cond b (pair u n ∷ []) []) ≡ cond b (n ∷ []) []
    by true = refl
    by false = refl
values_one false u n k = refl

-- the row is asked for, stays and is of the unit
abbrev pub is_staying : (TopFacts → Place) → Bool → ℕ → TopFacts → Bool
is_staying h pinned unit a = (same_bool a.pinned pinned && is_in_unit (h a)) && a.unit == unit

pub staying_values : (h : TopFacts → Place) (pinned : Bool) (files : List ℕ) (s : ℕ) (tops : List TopRow) (least : List ℕ) (unit : ℕ)
    → values_at (staying_pairs pinned s tops (map h (rows_from files s tops least))) unit ≡ numbers (filter (is_staying h pinned unit) (rows_from files s tops least))
unfolding staying_pairs rows_from values_at
staying_values h pinned files s [] least unit = refl
staying_values h pinned files s (t ∷ tops) [] unit = refl
staying_values h pinned files s (t ∷ tops) (l ∷ least) unit =
    let a : TopFacts = row_of files s t l in
    let e : s + 1 ≡ suc s = omega arith in
    let more = ap (λ n. values_at (staying_pairs pinned n tops (map h (rows_from files (suc s) tops least))) unit) e ∙ staying_values h pinned files (suc s) tops least unit in
    values_at-append (staying_one pinned t (h a) s) (staying_pairs pinned (s + 1) tops (map h (rows_from files (suc s) tops least))) unit
    ∙ ((λ i. values_one (same_bool t.pinned pinned && is_in_unit (h a)) t.unit s unit i ++ more i) ∙ by (is_staying h pinned unit a))
  where
    rest : List TopFacts
    rest = filter (is_staying h pinned unit) (rows_from files (suc s) tops least)

    by : (b : Bool) → cond b (s ∷ []) [] ++ numbers rest ≡ numbers (cond b (row_of files s t l ∷ rest) rest)
    by true = refl
    by false = refl

pub filter_twice : {X : Type 0} (p q r : X → Bool) (xs : List X) → ((x : X) → r x ≡ (q x && p x)) → filter r xs ≡ filter p (filter q xs)
filter_twice p q r [] h = refl
filter_twice {X} p q r (x ∷ xs) h = by (q x) (h x) (filter_twice p q r xs h)
  where
    by : (t : Bool) → r x ≡ (t && p x) → filter r xs ≡ filter p (filter q xs) → cond (r x) (x ∷ filter r xs) (filter r xs) ≡ filter p (cond t (x ∷ filter q xs) (filter q xs))
    by true e more = (λ i. cond (e i) (x ∷ more i) (more i))
    by false e more = (λ i. cond (e i) (x ∷ more i) (more i))

pub same_pinned : (b : Bool) → same_bool b true ≡ b
same_pinned true = refl
same_pinned false = refl

pub same_other : (b : Bool) → same_bool b false ≡ not b
same_other true = refl
same_other false = refl

-- ---- imports

-- a unit stands there at most once
abbrev pub OnceAt : List ℕ → Type 0
OnceAt us = (n unit : ℕ) → repeats n unit us ≡ cond (has unit us) (n ∷ []) []

none_below : (test : ℕ → Bool) (s n m unit : ℕ) → unit < s → repeats m unit (filter test (range_with_len s n)) ≡ []
unfolding repeats
none_below test s zero m unit l = refl
none_below test s (suc n) m unit l = by (test s) (none_below test (s + 1) n m unit (omega arith))
  where
    by : (t : Bool) → repeats m unit (filter test (range_with_len (s + 1) n)) ≡ [] → repeats m unit (cond t (s ∷ filter test (range_with_len (s + 1) n)) (filter test (range_with_len (s + 1) n)))
        ≡ []
    by true more = ap (λ t. cond t (m ∷ repeats m unit (filter test (range_with_len (s + 1) n))) (repeats m unit (filter test (range_with_len (s + 1) n)))) (ne_eqb s unit (λ e. omega (arith, e, l)))
        ∙ more
    by false more = more

pub once_range : (test : ℕ → Bool) (s n m unit : ℕ) → repeats m unit (filter test (range_with_len s n)) ≡ cond (has unit (filter test (range_with_len s n))) (m ∷ []) []
unfolding repeats has
once_range test s zero m unit = refl
once_range test s (suc n) m unit = by (test s) (once_range test (s + 1) n m unit) (λ l. none_below test (s + 1) n m unit l)
  where
    rest : List ℕ
    rest = filter test (range_with_len (s + 1) n)

    one : (s ≡ unit) ⊎ (s ≡ unit → ⊥) → repeats m unit rest ≡ cond (has unit rest) (m ∷ []) [] → (unit < s + 1 → repeats m unit rest ≡ [])
        → cond (s == unit) (m ∷ repeats m unit rest) (repeats m unit rest) ≡ cond (cond (s == unit) true (has unit rest)) (m ∷ []) []
    one (inl e) more none = (λ i. cond (eq-eqb s unit e i) (m ∷ none (omega (arith, e)) i) (repeats m unit rest)) ∙ sym (ap (λ t. cond (cond t true (has unit rest)) (m ∷ []) []) (eq-eqb s unit e))
    one (inr ne) more none = ap (λ t. cond t (m ∷ repeats m unit rest) (repeats m unit rest)) (ne_eqb s unit ne)
        ∙ (more ∙ sym (ap (λ t. cond (cond t true (has unit rest)) (m ∷ []) []) (ne_eqb s unit ne)))

    by : (t : Bool) → repeats m unit rest ≡ cond (has unit rest) (m ∷ []) [] → (unit < s + 1 → repeats m unit rest ≡ [])
        → repeats m unit (cond t (s ∷ rest) rest) ≡ cond (has unit (cond t (s ∷ rest) rest)) (m ∷ []) []
    by true more none = one (cases_eq s unit) more none
    by false more none = more

pub imports_values : (unit s : ℕ) (parts : List Partial) → ((part : Partial) → In part parts → OnceAt part.users) → values_at (turned s (map (λ (part : Partial). part.users) parts)) unit
    ≡ imports_from unit s parts
unfolding turned values_at imports_from
imports_values unit s [] once = refl
imports_values unit s (part ∷ parts) once =
    let e : s + 1 ≡ suc s = omega arith in
    let more = ap (λ n. values_at (turned n (map (λ (p : Partial). p.users) parts)) unit) e ∙ imports_values unit (suc s) parts (λ p is. once p (inr is)) in
    values_at-append (map (λ k. pair k s) part.users) (turned (s + 1) (map (λ (p : Partial). p.users) parts)) unit
    ∙ ((λ i. (values-turned_one s unit part.users ∙ once part (inl refl) s unit) i ++ more i) ∙ by (has unit part.users))
  where
    by : (t : Bool) → cond t (s ∷ []) [] ++ imports_from unit (suc s) parts ≡ cond t (s ∷ imports_from unit (suc s) parts) (imports_from unit (suc s) parts)
    by true = refl
    by false = refl

module _ (scope : Scope) (tops : Tops) (least : List ℕ) where
  abbrev rows : List TopFacts
  rows = rows_from tops.files_of_units 0 tops.rows least

  abbrev g : Given
  g = given scope tops least

  -- the users of a partial unit are those of a row
  pub record OfRow (part : Partial) : Type 0 where
    pub row : TopFacts
    pub is : users g row ≡ part.users

  of_home : (h : Home) (part : Partial) → In part (partials_at g h) → OfRow part
  unfolding partials_at
  of_home h part is =
      let p = in_map_from (partial_with g h) part (distinct (map (users g) (representatives g h))) is in
      let u = in_map_from (users g) p.source (representatives g h) (distinct_in p.source (map (users g) (representatives g h)) p.there) in
      record { row = u.source; is = u.is ∙ ap (λ (q : Partial). q.users) p.is }

  of_files : (files : List ℕ) (part : Partial) → In part (flat_map (λ file. partials_at g (Local file)) files) → OfRow part
  of_files [] part is = absurd is
  of_files (f ∷ files) part is = elim (in_cases part (partials_at g (Local f)) (flat_map (λ file. partials_at g (Local file)) files) is) [
    | inl here ↦ of_home (Local f) part here
    | inr more ↦ of_files files part more
  ]

  pub of_row : (part : Partial) → In part (partials g) → OfRow part
  unfolding partials
  of_row part is = elim (in_cases part (partials_at g Common) (flat_map (λ file. partials_at g (Local file)) (range_with_len 0 tops.files)) is) [
    | inl here ↦ of_home Common part here
    | inr more ↦ of_files (range_with_len 0 tops.files) part more
  ]

  pub once_at : (part : Partial) → In part (partials g) → OnceAt part.users
  unfolding users
  once_at part is =
      let o = of_row part is in
      subst (λ (us : List ℕ). OnceAt us) o.is (λ n unit. once_range (λ unit. list_any (λ b. b.unit == unit && alike scope o.row b) rows) 0 (length tops.files_of_units) n unit)

-- What the steps give where tops go elsewhere than all with a home.
use Rattle.std.proofs.Common.{◌≡◌, ℕ, suc, ◌<◌, ◌≤◌, ◌==◌, ◌&&◌, inl, inr, not, cond, All, Bool, true, false, List, [], ◌∷◌, ◌++◌, length, map, filter, refl, sym, ap, subst, ◌∙◌, arith}
use Rattle.std.specs.List.{flat_map, list_any, range_with_len}
use Rattle.std.proofs.lemmas.List.FromFn.{length-range_with_len}
use Rattle.dwz_def_tops.specs.Spots.{same_numbers}
use Rattle.dwz_def_plan.specs.Homes.{Common, Home, Local, Stay, same_home}
use Rattle.dwz_def_plan.specs.Plan.{distinct}
use Rattle.std.proofs.lemmas.List.{length-map, map-append}
use Rattle.dwz_def_reading.specs.Lists.{In}
use Rattle.dwz_def_reading.proofs.ListFacts.{in_cases}
use Rattle.dwz_groups.specs.declared.tops.Tops.{Tops}
use Rattle.dwz_plan.specs.Gaining.{AreNumbers}
use Rattle.dwz_groups.specs.Groups.{grouped, values_at}
use Rattle.dwz_plan.specs.declared.plan.Home.{Home as Place}
use Rattle.dwz_plan.specs.declared.plan.Home.TheVariants.{Stay as InUnit}
use Rattle.dwz_plan.specs.declared.plan.Partial.{Partial}
use Rattle.dwz_plan.specs.declared.plan.Scope.{Scope}
use Rattle.dwz_plan.specs.Gained.{among, group_of, home_after, kept_after, kept_by, stand_after, staying_by}
use Rattle.dwz_plan.specs.Planned.{alike, home, imports_from, number_in, numbers, partial_with, partials, partials_at, place, place_at, rep, representatives, reps_of, units_of, users}
use Rattle.dwz_plan.specs.Rows.{Given, TopFacts, given, rows_from}
use Rattle.dwz_plan.specs.Steps.{is_in_unit, same_bool, stander, staying_pairs, turned}
use Rattle.dwz_plan.proofs.KeptLemmas.{OnceAt, filter_twice, imports_values, is_staying, of_row, once_at, same_other, same_pinned, staying_values}
use Rattle.dwz_plan.proofs.ListFacts.{all_from_in, filter_in, map_in, map_map}
use Rattle.dwz_plan.proofs.LedLemmas.{counted_below, numbers_counted}
use Rattle.dwz_plan.proofs.PartialLemmas.{represents}
use Rattle.dwz_plan.proofs.StepLemmas.{at_number, counted, part_of, users_low}
use Rattle.dwz_plan.proofs.TurnedLemmas.{values_at-append}
use Rattle.dwz_def_tops.proofs.Members.{in_filter_from, in_map_from}

pub among_in : {X : Type 0} (marks : List Bool) (xs : List X) (x : X) → In x (among marks xs) → In x xs
unfolding among
among_in [] xs x i = absurd i
among_in (b ∷ marks) [] x i = absurd i
among_in (true ∷ marks) (y ∷ xs) x (inl e) = inl e
among_in (true ∷ marks) (y ∷ xs) x (inr i) = inr (among_in marks xs x i)
among_in (false ∷ marks) (y ∷ xs) x i = inr (among_in marks xs x i)

pub filter_few : {X : Type 0} (p : X → Bool) (xs : List X) → length (filter p xs) ≤ length xs
filter_few p [] = omega arith
filter_few {X} p (x ∷ xs) = by (p x) (filter_few p xs)
  where
    by : (b : Bool) → length (filter p xs) ≤ length xs → length (cond b (x ∷ filter p xs) (filter p xs)) ≤ suc (length xs)
    by true l = omega arith
    by false l = omega arith

pub among_few : {X : Type 0} (marks : List Bool) (xs : List X) → length (among marks xs) ≤ length xs
unfolding among
among_few [] xs = omega arith
among_few (b ∷ marks) [] = omega arith
among_few (true ∷ marks) (x ∷ xs) = let l = among_few marks xs in omega (arith, l)
among_few (false ∷ marks) (x ∷ xs) = let l = among_few marks xs in omega (arith, l)

module _ (scope : Scope) (tops : Tops) (least : List ℕ) (marks : List Bool) where
  abbrev rows : List TopFacts
  rows = rows_from tops.files_of_units 0 tops.rows least

  abbrev g : Given
  g = given scope tops least

  abbrev h : TopFacts → Place
  h = home_after marks g

  one_kind : (to : TopFacts → Place) (pinned : Bool) (unit : ℕ) → numbers (filter (is_staying to pinned unit) rows) ≡ numbers (filter (λ a. same_bool a.pinned pinned) (staying_by to rows unit))
  unfolding staying_by
  one_kind to pinned unit = ap numbers (filter_twice (λ a. same_bool a.pinned pinned) (λ a. a.unit == unit && is_in_unit (to a)) (is_staying to pinned unit) rows
      (λ a. by (same_bool a.pinned pinned) (is_in_unit (to a)) (a.unit == unit)))
    where
      by : (s t u : Bool) → ((s && t) && u) ≡ ((u && t) && s)
      by true true true = refl
      by true true false = refl
      by true false true = refl
      by true false false = refl
      by false true true = refl
      by false true false = refl
      by false false true = refl
      by false false false = refl

  kept_at : (to : TopFacts → Place) (unit : ℕ) → values_at (staying_pairs true 0 tops.rows (map to rows) ++ staying_pairs false 0 tops.rows (map to rows)) unit ≡ kept_by to rows unit
  unfolding kept_by
  kept_at to unit =
      let stay = staying_by to rows unit in
      let pinned = staying_values to true tops.files_of_units 0 tops.rows least unit
      ∙ (one_kind to true unit ∙ ap numbers (filter_in (λ a. same_bool a.pinned true) (λ a. a.pinned) stay (λ a is. same_pinned a.pinned))) in
      let others = staying_values to false tops.files_of_units 0 tops.rows least unit
      ∙ (one_kind to false unit ∙ ap numbers (filter_in (λ a. same_bool a.pinned false) (λ a. not a.pinned) stay (λ a is. same_other a.pinned))) in
      values_at-append (staying_pairs true 0 tops.rows (map to rows)) (staying_pairs false 0 tops.rows (map to rows)) unit
      ∙ ((λ i. pinned i ++ others i) ∙ sym (map-append (λ (a : TopFacts). a.number) (filter (λ a. a.pinned) stay) (filter (λ a. not a.pinned) stay)))

  -- what is kept, wherever tops go
  pub kept_any : (to : TopFacts → Place) → grouped (length tops.files_of_units) (staying_pairs true 0 tops.rows (map to rows) ++ staying_pairs false 0 tops.rows (map to rows))
      ≡ map (kept_by to rows) (units_of g)
  unfolding grouped
  kept_any to = map_in (values_at (staying_pairs true 0 tops.rows (map to rows) ++ staying_pairs false 0 tops.rows (map to rows))) (kept_by to rows) (units_of g) (λ unit is. kept_at to unit)

  pub kept_left : grouped (length tops.files_of_units) (staying_pairs true 0 tops.rows (map h rows) ++ staying_pairs false 0 tops.rows (map h rows)) ≡ map (kept_after marks g) (units_of g)
  kept_left = kept_any h

  -- what is imported of partial units of which none has a user twice
  pub imports_any : (parts : List Partial) → ((part : Partial) → In part parts → OnceAt part.users)
      → grouped (length tops.files_of_units) (turned 0 (map (λ (part : Partial). part.users) parts)) ≡ map (λ unit. imports_from unit 0 parts) (units_of g)
  unfolding grouped
  imports_any parts once = map_in (values_at (turned 0 (map (λ (part : Partial). part.users) parts))) (λ unit. imports_from unit 0 parts) (units_of g) (λ unit is. imports_values unit 0 parts once)

  pub once_left : (part : Partial) → In part (among marks (partials g)) → OnceAt part.users
  once_left part there = once_at scope tops least part (among_in marks (partials g) part there)

  pub imports_left : grouped (length tops.files_of_units) (turned 0 (map (λ (part : Partial). part.users) (among marks (partials g)))) ≡ map (λ unit. imports_from unit 0 (among marks (partials g)))
      (units_of g)
  imports_left = imports_any (among marks (partials g)) once_left

  -- ---- bounds

  pub record Fits (part : Partial) : Type 0 where
    pub inside : (n : ℕ) → In n part.tops → n < length rows
    pub few : length part.tops ≤ length rows
    pub users_few : length part.users ≤ length tops.files_of_units

  fits_at : (h : Home) (part : Partial) → In part (partials_at g h) → length part.users ≤ length tops.files_of_units → Fits part
  unfolding partials_at representatives
  fits_at h part is less =
      let p = in_map_from (partial_with g h) part (distinct (map (users g) (representatives g h))) is in
      let q : TopFacts → Bool = λ a. same_numbers (users g a) p.source in
      let here : numbers (filter q (representatives g h)) ≡ part.tops = ap (λ (w : Partial). w.tops) p.is in
      let len = ap (λ (ns : List ℕ). length ns) here in
      let a = length-map (filter q (representatives g h)) (λ (b : TopFacts). b.number) in
      let b = filter_few q (representatives g h) in
      let c = filter_few (λ a. same_home (home g a) h && rep g a == a.number) rows in
      record {
        inside = λ n i. (
            let o = in_map_from (λ (b : TopFacts). b.number) n (filter q (representatives g h)) (subst (λ (ns : List ℕ). In n ns) (sym here) i) in
            let r = represents g h o.source (in_filter_from q o.source (representatives g h) o.there).0 in
            omega (arith, o.is, counted_below 0 rows o.source (counted scope tops least) r.there));
        few = omega (arith, len, a, b, c);
        users_few = less;
      }

  few_users : (part : Partial) → In part (partials g) → length part.users ≤ length tops.files_of_units
  unfolding users
  few_users part is =
      let o = of_row scope tops least part is in
      let e = ap (λ (us : List ℕ). length us) o.is in
      let f = filter_few (λ unit. list_any (λ b. b.unit == unit && alike scope o.row b) rows) (units_of g) in
      let l = length-range_with_len 0 (length tops.files_of_units) in
      omega (arith, e, f, l)

  local_fits : (files : List ℕ) (part : Partial) → In part (flat_map (λ file. partials_at g (Local file)) files) → length part.users ≤ length tops.files_of_units → Fits part
  local_fits [] part is less = absurd is
  local_fits (f ∷ files) part is less = elim (in_cases part (partials_at g (Local f)) (flat_map (λ file. partials_at g (Local file)) files) is) [
    | inl here ↦ fits_at (Local f) part here less
    | inr more ↦ local_fits files part more less
  ]

  pub fits : (part : Partial) → In part (partials g) → Fits part
  unfolding partials
  fits part is = elim (in_cases part (partials_at g Common) (flat_map (λ file. partials_at g (Local file)) (range_with_len 0 tops.files)) is) [
    | inl here ↦ fits_at Common part here (few_users part is)
    | inr more ↦ local_fits (range_with_len 0 tops.files) part more (few_users part is)
  ]

  place_low : All (λ f. f < tops.files) tops.files_of_units → (a : TopFacts) → In a rows → AreNumbers (length (partials g)) (group_of (place g a))
  unfolding place
  place_low files a is = by (home g a) refl
    where
      by : (h : Home) → home g a ≡ h → AreNumbers (length (partials g)) (group_of (place_at h (number_in (partials g) (users g a))))
      by Common e = (part_of scope tops least files a is (λ s. (let q : Common ≡ Stay = sym e ∙ s in cc))).low
      by (Local f) e = (part_of scope tops least files a is (λ s. (let q : Local f ≡ Stay = sym e ∙ s in cc))).low
      by Stay e = tt

  pub places_low : All (λ f. f < tops.files) tops.files_of_units → All (λ p. AreNumbers (length (partials g)) (group_of p)) (map (place g) rows)
  places_low files = all_from_in (λ p. AreNumbers (length (partials g)) (group_of p)) (map (place g) rows)
      (λ p is. (let o = in_map_from (place g) p rows is in subst (λ (q : Place). AreNumbers (length (partials g)) (group_of q)) o.is (place_low files o.source o.there)))

  pub users_in : (part : Partial) → In part (among marks (partials g)) → All (λ u. u < length tops.files_of_units) part.users
  users_in part is =
      let o = of_row scope tops least part (among_in marks (partials g) part is) in
      subst (λ (us : List ℕ). All (λ u. u < length tops.files_of_units) us) o.is (users_low scope tops least o.row)

  pub users_left : All (λ part. All (λ u. u < length tops.files_of_units) part.users) (among marks (partials g))
  users_left = all_from_in (λ (part : Partial). All (λ u. u < length tops.files_of_units) part.users) (among marks (partials g)) users_in

  -- ---- what stands for what

  pub stands_left : map (stander (map h rows) (reps_of g)) (range_with_len 0 (length rows)) ≡ map (stand_after marks g) rows
  stands_left =
      ap (map (stander (map h rows) (reps_of g))) (sym (numbers_counted 0 rows (counted scope tops least)))
      ∙ (map_map (stander (map h rows) (reps_of g)) (λ (a : TopFacts). a.number) rows
      ∙ map_in (λ (a : TopFacts). stander (map h rows) (reps_of g) a.number) (stand_after marks g) rows
      (λ a is. (λ i. cond (is_in_unit (at_number h rows a InUnit (counted scope tops least) is i)) a.number (at_number (rep g) rows a 0 (counted scope tops least) is i))))

-- The plan of rows and the plan of the units whose tops they show.
use Rattle.std.proofs.Common.{◌≡◌, ◌↔◌, ℕ, Some, zero, suc, ◌+◌, ◌<◌, ◌==◌, ◌&&◌, ◌||◌, inl, inr, cond, Bool, true, false, List, [], ◌∷◌, ◌++◌, length, map, filter, find, get_or, refl, sym, ap, subst}
use Rattle.std.proofs.Common.{◌∙◌, arith, eqb-true, eq-eqb}
use Rattle.std.specs.Option.{option_map_or}
use Rattle.std.specs.List.{flat_map, list_any, range_with_len}
use Rattle.std.proofs.lemmas.Bool.{and_parts}
use Rattle.std.proofs.lemmas.List.{get_or-map, length-map, map-append}
use Rattle.std.proofs.lemmas.Option.{slice_get-get_or}
use Rattle.dwz_def_reading.specs.Documents.{Doc, Entries}
use Rattle.dwz_def_reading.specs.Lists.{In}
use Rattle.dwz_def_reading.specs.Rows.{has}
use Rattle.dwz_def_reading.specs.Trees.{End, Entry}
use Rattle.dwz_def_reading.proofs.CaseFacts.{same_test}
use Rattle.dwz_def_reading.proofs.ListFacts.{in_cases}
use Rattle.dwz_groups.specs.declared.tops.Tops.{Tops}
use Rattle.dwz_def_tops.specs.Deciding.{Test}
use Rattle.dwz_def_tops.specs.Spots.{EntryName, FileUnit, Top, file_numbers, same_numbers, tops_of}
use Rattle.dwz_def_plan.specs.Homes.{Common, Home, Local, Stay, file_of, first_alike, candidate as unit_home, home as ruled_home, all_rule, home_in, numbers_from, rep as unit_rep, same_home}
use Rattle.dwz_def_plan.specs.Homes.{unit_uses, users as unit_users}
use Rattle.dwz_def_plan.specs.Plan.{PartialUnit, distinct, import_of, imports as unit_imports, local_partials, partial_with as unit_partial_with, partials as unit_partials}
use Rattle.dwz_def_plan.specs.Plan.{partials_at as unit_partials_at, representatives as unit_representatives, stands_for, users_of}
use Rattle.dwz_def_plan.proofs.PlanLemmas.{distinct_in, home_true}
use Rattle.dwz_plan.specs.declared.plan.Partial.{Partial}
use Rattle.dwz_plan.specs.declared.plan.Scope.{Scope}
use Rattle.dwz_plan.specs.declared.plan.Scope.TheVariants.{Together, Each}
use Rattle.dwz_plan.specs.Planned.{alike, file_of_home, home, imports_from, in_scope, number_in, partial_with, partials, partials_at, place, place_at, rep, representatives, units_of, users}
use Rattle.dwz_plan.specs.Rows.{Given, TopFacts, given}
use Rattle.dwz_plan.specs.Shows.{InOneScope, HaveLeast, IsPlace, Joins, PartAt, ShowsTops, import_row, shown_part}
use Rattle.dwz_plan.proofs.DistinctLemmas.{get_in}
use Rattle.dwz_plan.proofs.ListFacts.{filter_in, map_in, map_map}
use Rattle.dwz_plan.proofs.MoverLemmas.{movers_of}
use Rattle.dwz_plan.proofs.PartialLemmas.{part_among, tops_with}
use Rattle.dwz_plan.proofs.RowLemmas.{alike_from, alike_parts}
use Rattle.dwz_plan.proofs.StepLemmas.{part_of}
use Rattle.dwz_plan.proofs.ShownLemmas.{SameRow, SameRows, filter_shown, map_shown, numbers_shown, rows_shown, tops_counted}
use Rattle.dwz_def_tops.proofs.Members.{in_filter_from, in_map_from}

-- ---- the test decides as the rows do

scoped_is : (scope : Scope) (a b : TopFacts) → in_scope scope a b ≡ true → InOneScope scope a b
scoped_is Together a b e = tt
scoped_is Each a b e = eqb-true a.file b.file e

scoped_from : (scope : Scope) (a b : TopFacts) → InOneScope scope a b → in_scope scope a b ≡ true
scoped_from Together a b e = refl
scoped_from Each a b e = eq-eqb a.file b.file e

agrees : (scope : Scope) (test : Test) (a b : TopFacts) → (test a.number b.number ≡ true) ↔ Joins scope a b → test a.number b.number ≡ alike scope a b
agrees scope test a b decides =
    same_test (test a.number b.number) (alike scope a b)
    (λ e. (let j = decides.0 e in alike_from scope a b record { first = j.first; second = j.second; scoped = scoped_from scope a b j.scoped; least = j.least }))
    (λ e. (let j = alike_parts scope a b e in decides.1 record { first = j.first; second = j.second; scoped = scoped_is scope a b j.scoped; least = j.least }))

-- ---- files and units by their numbers

pub numbers_are : {X : Type 0} (s : ℕ) (xs : List X) → numbers_from s xs ≡ range_with_len s (length xs)
unfolding numbers_from
numbers_are s [] = refl
numbers_are s (x ∷ xs) = ap (λ (ns : List ℕ). s ∷ ns) (numbers_are (suc s) xs ∙ (let e : suc s ≡ s + 1 = omega arith in ap (λ n. range_with_len n (length xs)) e))

pub file_numbers_are : (s : ℕ) (docs : List (Doc ℕ)) → file_numbers s docs ≡ range_with_len s (length docs)
unfolding file_numbers
file_numbers_are s [] = refl
file_numbers_are s (d ∷ docs) = ap (λ (ns : List ℕ). s ∷ ns) (file_numbers_are (suc s) docs ∙ (let e : suc s ≡ s + 1 = omega arith in ap (λ n. range_with_len n (length docs)) e))

pub file_is : (units : List (FileUnit EntryName)) (i : ℕ) → file_of units i ≡ get_or (map (λ (f : FileUnit EntryName). f.file) units) i 0
unfolding file_of
file_is [] i = refl
file_is (f ∷ units) zero = refl
file_is (f ∷ units) (suc i) = file_is units i

-- ---- what is imported

pub imports_shown : (files unit n : ℕ) (parts : List PartialUnit) → unit_imports unit n parts ≡ import_row unit (imports_from unit n (map (shown_part files) parts))
unfolding unit_imports import_row imports_from
imports_shown files unit n [] = refl
imports_shown files unit n (part ∷ parts) = by (has unit part.users) (imports_shown files unit (suc n) parts)
  where
    by : (x : Bool) → unit_imports unit (suc n) parts ≡ import_row unit (imports_from unit (suc n) (map (shown_part files) parts))
        → (elim x as (λ _. Entries EntryName) [ true ↦ Entry (import_of unit n) End (unit_imports unit (suc n) parts) | false ↦ unit_imports unit (suc n) parts ])
        ≡ import_row unit (cond x (n ∷ imports_from unit (suc n) (map (shown_part files) parts)) (imports_from unit (suc n) (map (shown_part files) parts)))
    by true more = ap (λ e. Entry (import_of unit n) End e) more
    by false more = more

module _ (units : List (FileUnit EntryName)) (test : Test) (scope : Scope) (tops : Tops) (least : List ℕ) (shows : ShowsTops units tops) (decides : HaveLeast scope tops least test) where
  abbrev pub g : Given
  g = given scope tops least

  pub same : SameRows units g.rows (tops_of units)
  same = rows_shown units tops.files_of_units 0 tops.rows least (tops_of units) decides.len shows.rows (tops_counted 0 0 units)

  agree : (a b : TopFacts) → In a g.rows → In b g.rows → test a.number b.number ≡ alike scope a b
  agree a b is there = agrees scope test a b (decides.decides a b is there)

  -- ---- users, representatives, homes

  uses_is : (a : TopFacts) (unit : ℕ) (rows : List TopFacts) (these : List Top) → SameRows units rows these → ((b : TopFacts) → In b rows → test a.number b.number ≡ alike scope a b)
      → list_any (λ (t : Top). t.unit == unit && test a.number t.number) these ≡ list_any (λ b. b.unit == unit && alike scope a b) rows
  uses_is a unit [] [] h e = refl
  uses_is a unit [] (t ∷ these) h e = absurd h
  uses_is a unit (b ∷ rows) [] h e = absurd h
  uses_is a unit (b ∷ rows) (t ∷ these) h e =
      (λ i. (sym h.0.unit i == unit && (ap (test a.number) (sym h.0.number) ∙ e b (inl refl)) i) || uses_is a unit rows these h.1 (λ c is. e c (inr is)) i)

  units_are : numbers_from 0 units ≡ units_of g
  units_are = numbers_are 0 units ∙ ap (range_with_len 0) (sym (length-map units (λ (f : FileUnit EntryName). f.file)) ∙ ap (λ (ns : List ℕ). length ns) (sym shows.files_of_units))

  pub users_is : (a : TopFacts) → In a g.rows → unit_users test units a.number ≡ users g a
  unfolding unit_users users
  users_is a is =
      ap (filter (unit_uses test (tops_of units) a.number)) units_are
      ∙ filter_in (unit_uses test (tops_of units) a.number) (λ unit. list_any (λ b. b.unit == unit && alike scope a b) g.rows) (units_of g)
      (λ unit there. uses_is a unit g.rows (tops_of units) same (λ b is'. agree a b is is'))

  pub home_is : (a : TopFacts) → In a g.rows → unit_home test units a.number ≡ home g a
  unfolding unit_home
  home_is a is =
      ap (λ (us : List ℕ). home_in (map (file_of units) us)) (users_is a is)
      ∙ ap home_in (map_in (file_of units) (λ u. get_or tops.files_of_units u 0) (users g a) (λ u there. file_is units u ∙ ap (λ (fs : List ℕ). get_or fs u 0) (sym shows.files_of_units)))

  first_is : (a : TopFacts) (rows : List TopFacts) (these : List Top) → SameRows units rows these → ((b : TopFacts) → In b rows → test a.number b.number ≡ alike scope a b)
      → first_alike test a.number these ≡ option_map_or (λ (b : TopFacts). b.number) (find (alike scope a) rows) a.number
  unfolding first_alike
  first_is a [] [] h e = refl
  first_is a [] (t ∷ these) h e = absurd h
  first_is a (b ∷ rows) [] h e = absurd h
  first_is a (b ∷ rows) (t ∷ these) h e =
      ap (λ x. elim x as (λ _. ℕ) [ true ↦ t.number | false ↦ first_alike test a.number these ]) (ap (test a.number) (sym h.0.number) ∙ e b (inl refl))
      ∙ by (alike scope a b) (first_is a rows these h.1 (λ c is. e c (inr is)))
    where
      by : (x : Bool) → first_alike test a.number these ≡ option_map_or (λ (c : TopFacts). c.number) (find (alike scope a) rows) a.number
          → (elim x as (λ _. ℕ) [ true ↦ t.number | false ↦ first_alike test a.number these ]) ≡ option_map_or (λ (c : TopFacts). c.number) (cond x (Some b) (find (alike scope a) rows)) a.number
      by true more = sym h.0.number
      by false more = more

  pub rep_is : (a : TopFacts) → In a g.rows → unit_rep test units a.number ≡ rep g a
  rep_is a is = first_is a g.rows (tops_of units) same (λ b there. agree a b is there)

  -- ---- partial units

  reps_same : (h : Home) → SameRows units (representatives g h) (unit_representatives (all_rule test) units h)
  unfolding unit_representatives representatives unit_home ruled_home
  reps_same h =
      filter_shown units (λ a. same_home (home g a) h && rep g a == a.number) (stands_for (all_rule test) units h) g.rows (tops_of units) same
      (λ a t is s. (λ i. same_home ((sym (home_is a is) ∙ ap (unit_home test units) s.number) i) h && (sym (rep_is a is) ∙ ap (unit_rep test units) s.number) i == s.number i))

  reps_in : (h : Home) (a : TopFacts) → In a (representatives g h) → In a g.rows
  unfolding representatives
  reps_in h a is = (in_filter_from (λ b. same_home (home g b) h && rep g b == b.number) a g.rows is).0

  users_shown : (a : TopFacts) (t : Top) → In a g.rows → SameRow units a t → users g a ≡ users_of test units t
  users_shown a t is s = sym (users_is a is) ∙ ap (unit_users test units) s.number

  partial_is : (h : Home) (us : List ℕ) → shown_part tops.files (unit_partial_with (all_rule test) units h us) ≡ partial_with g h us
  partial_is h us =
      let these = filter_shown units (λ a. same_numbers (users g a) us) (λ t. same_numbers (users_of test units t) us) (representatives g h) (unit_representatives (all_rule test) units h)
      (reps_same h) (λ a t is s. ap (λ (vs : List ℕ). same_numbers vs us) (users_shown a t (reps_in h a is) s)) in
      (λ i. record {
        file = file_of_home tops.files h;
        users = us;
        tops = numbers_shown units (filter (λ a. same_numbers (users g a) us) (representatives g h))
            (filter (λ t. same_numbers (users_of test units t) us) (unit_representatives (all_rule test) units h)) these i;
      })

  partials_at_is : (h : Home) → map (shown_part tops.files) (unit_partials_at (all_rule test) units h) ≡ partials_at g h
  unfolding unit_partials_at partials_at
  partials_at_is h =
      map_map (shown_part tops.files) (unit_partial_with (all_rule test) units h) (distinct (map (users_of test units) (unit_representatives (all_rule test) units h)))
      ∙ ((λ i. map (λ us. partial_is h us i) (distinct (map (users_of test units) (unit_representatives (all_rule test) units h))))
      ∙ ap (λ (ls : List (List ℕ)). map (partial_with g h) (distinct ls))
      (map_shown units (users g) (users_of test units) (representatives g h) (unit_representatives (all_rule test) units h) (reps_same h) (λ a t is s. users_shown a t (reps_in h a is) s)))

  local_is : (files : List ℕ) → map (shown_part tops.files) (local_partials (all_rule test) units files) ≡ flat_map (λ file. partials_at g (Local file)) files
  unfolding local_partials
  local_is [] = refl
  local_is (f ∷ files) = map-append (shown_part tops.files) (unit_partials_at (all_rule test) units (Local f)) (local_partials (all_rule test) units files)
      ∙ (λ i. partials_at_is (Local f) i ++ local_is files i)

  pub partials_is : map (shown_part tops.files) (unit_partials (all_rule test) units (range_with_len 0 tops.files)) ≡ partials g
  unfolding unit_partials partials
  partials_is = map-append (shown_part tops.files) (unit_partials_at (all_rule test) units Common) (local_partials (all_rule test) units (range_with_len 0 tops.files))
      ∙ (λ i. partials_at_is Common i ++ local_is (range_with_len 0 tops.files) i)

  -- ---- where a top goes

  unit_homed : (h : Home) (part : PartialUnit) → In part (unit_partials_at (all_rule test) units h) → part.home ≡ home_in (map (file_of units) part.users)
  unfolding unit_partials_at unit_representatives unit_home unit_users ruled_home
  unit_homed h part is =
      let p = in_map_from (unit_partial_with (all_rule test) units h) part (distinct (map (users_of test units) (unit_representatives (all_rule test) units h))) is in
      let u = in_map_from (users_of test units) p.source (unit_representatives (all_rule test) units h)
      (distinct_in p.source (map (users_of test units) (unit_representatives (all_rule test) units h)) p.there) in
      let f = in_filter_from (stands_for (all_rule test) units h) u.source (tops_of units) u.there in
      let e = home_true (unit_home test units u.source.number) h (and_parts (same_home (unit_home test units u.source.number) h) (unit_rep test units u.source.number == u.source.number) f.1).0 in
      ap (λ (q : PartialUnit). q.home) (sym p.is) ∙ (sym e ∙ ap (λ (us : List ℕ). home_in (map (file_of units) us)) (u.is ∙ ap (λ (q : PartialUnit). q.users) p.is))

  local_homed : (files : List ℕ) (part : PartialUnit) → In part (local_partials (all_rule test) units files) → part.home ≡ home_in (map (file_of units) part.users)
  unfolding local_partials
  local_homed [] part is = absurd is
  local_homed (f ∷ files) part is = elim (in_cases part (unit_partials_at (all_rule test) units (Local f)) (local_partials (all_rule test) units files) is) [
    | inl here ↦ unit_homed (Local f) part here
    | inr more ↦ local_homed files part more
  ]

  -- a partial unit's home is that of its users
  all_homed : (files : List ℕ) (part : PartialUnit) → In part (unit_partials (all_rule test) units files) → part.home ≡ home_in (map (file_of units) part.users)
  unfolding unit_partials
  all_homed files part is = elim (in_cases part (unit_partials_at (all_rule test) units Common) (local_partials (all_rule test) units files) is) [
    | inl here ↦ unit_homed Common part here
    | inr more ↦ local_homed files part more
  ]

  abbrev pub parts : List PartialUnit
  parts = unit_partials (all_rule test) units (range_with_len 0 tops.files)

  no_part : PartialUnit
  no_part = record { home = Stay; users = []; tops = [] }

  abbrev pub number_for : TopFacts → ℕ
  number_for a = number_in (partials g) (users g a)

  part_at : (h : Home) (a : TopFacts) → In a g.rows → home g a ≡ h → (h ≡ Stay → ⊥) → PartAt parts (number_for a) h (unit_users test units a.number) (unit_rep test units a.number)
  unfolding unit_home
  part_at h a is e other =
      let o = part_of scope tops least shows.files a is (λ s. other (sym e ∙ s)) in
      let part : PartialUnit = get_or parts (number_for a) no_part in
      let long : length (partials g) ≡ length parts = ap (λ (ps : List Partial). length ps) (sym partials_is) ∙ length-map parts (shown_part tops.files) in
      let low : number_for a < length parts = omega (arith, o.low, long) in
      let shown : shown_part tops.files part ≡ part_among g (movers_of g) (users g a) =
      sym (get_or-map (shown_part tops.files) parts (number_for a) no_part (shown_part tops.files no_part) low)
      ∙ (ap (λ (ps : List Partial). get_or ps (number_for a) (shown_part tops.files no_part)) partials_is ∙ o.is (shown_part tops.files no_part)) in
      let users_are : part.users ≡ unit_users test units a.number = ap (λ (q : Partial). q.users) shown ∙ sym (users_is a is) in
      record {
        part = part;
        there = slice_get-get_or parts (number_for a) no_part low;
        home = all_homed (range_with_len 0 tops.files) part (get_in parts (number_for a) no_part low) ∙ (ap (λ (us : List ℕ). home_in (map (file_of units) us)) users_are ∙ (home_is a is ∙ e));
        users = users_are;
        holds = subst (λ (ns : List ℕ). In (unit_rep test units a.number) ns) (sym (ap (λ (q : Partial). q.tops) shown))
            (subst (λ n. In n (tops_with g (movers_of g) (users g a))) (sym (rep_is a is)) o.holds);
      }

  pub place_is : (a : TopFacts) → In a g.rows → IsPlace (all_rule test) units parts a.number (place g a)
  unfolding place ruled_home
  place_is a is = by (home g a) refl
    where
      by : (h : Home) → home g a ≡ h → IsPlace (all_rule test) units parts a.number (place_at h (number_in (partials g) (users g a)))
      by Common e = (home_is a is ∙ e, part_at Common a is e (λ s. cc))
      by (Local f) e = (f, home_is a is ∙ e, part_at (Local f) a is e (λ s. cc))
      by Stay e = home_is a is ∙ e

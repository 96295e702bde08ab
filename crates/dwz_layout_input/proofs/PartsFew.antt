-- A plan has no more partial units than there are tops; their users and their tops are there.
use Rattle.std.proofs.Common.{◌≡◌, ℕ, ◌<◌, ◌≤◌, All, List, [], ◌∷◌, length, map, not, sym, ap, subst, arith}
use Rattle.std.proofs.lemmas.List.{length-map}
use Rattle.dwz_def_tops.specs.Spots.{same_numbers}
use Rattle.dwz_def_images.specs.Plan.{distinct}
use Rattle.dwz_groups.specs.declared.tops.Tops.{Tops}
use Rattle.dwz_groups.specs.Groups.{grouped}
use Rattle.dwz_groups.proofs.MarkLemmas.{grouped_length}
use Rattle.dwz_plan.specs.declared.plan.Partial.{Partial}
use Rattle.dwz_plan.specs.declared.plan.Scope.{Scope}
use Rattle.dwz_plan.specs.Gained.{IsPlanOf, among, gained}
use Rattle.dwz_plan.specs.Planned.{Planned, partials}
use Rattle.dwz_plan.specs.Rows.{Given, given}
use Rattle.dwz_plan.specs.Steps.{lists_of, movers_by, numbered, parts_by, users_at}
use Rattle.dwz_plan.proofs.GainedRows.{among_few, among_in, filter_few, fits, users_left}
use Rattle.dwz_plan.proofs.ListFacts.{all_from_in}
use Rattle.dwz_plan.proofs.MadeLemmas.{movers_few}
use Rattle.dwz_plan.proofs.PlaceLemmas.{length-partials_of}
use Rattle.dwz_plan.proofs.RowLemmas.{length-rows_from}
use Rattle.dwz_plan.proofs.StepLemmas.{length_lists, lists, parts_are}

-- ---- before what gains nothing is left out

distinct_few : (all : List (List ℕ)) → length (distinct all) ≤ length all
unfolding distinct
distinct_few [] = omega arith
distinct_few (us ∷ all) =
    let a = filter_few (λ vs. not (same_numbers us vs)) (distinct all) in
    let b = distinct_few all in
    omega (arith, a, b)

lists_few : (users : List (List ℕ)) (movers : List ℕ) → length (lists_of users movers) ≤ length movers
unfolding lists_of
lists_few users movers = omega (arith, distinct_few (map (users_at users) movers), length-map movers (users_at users))

by_few : (fs : List ℕ) (files : ℕ) (users : List (List ℕ)) → length (parts_by fs files users) ≤ length users
unfolding parts_by
by_few fs files users =
    let movers = movers_by fs files users in
    let some = lists_of users movers in
    let tops = grouped (length some) (numbered users movers) in
    let many = length-partials_of fs files some tops (grouped_length (length some) (numbered users movers)) in
    omega (arith, many, lists_few users movers, movers_few fs files users)

all_few : (sharing : Scope) (tops : Tops) (least : List ℕ) → length least ≡ length tops.rows → length (partials (given sharing tops least)) ≤ length tops.rows
all_few sharing tops least len =
    let same = ap (λ (ps : List Partial). length ps) (parts_are sharing tops least) in
    omega (arith, same, by_few tops.files_of_units tops.files (lists sharing tops least), length_lists sharing tops least len)

-- ---- of a plan

among_parts : (g : Given) (plan : Planned) (is : IsPlanOf g plan) → plan.partials ≡ among is.0 (partials g)
unfolding gained
among_parts g plan is = ap (λ (p : Planned). p.partials) is.2

module _ (sharing : Scope) (tops : Tops) (least : List ℕ) (len : length least ≡ length tops.rows) (plan : Planned) (is : IsPlanOf (given sharing tops least) plan) where
  abbrev g : Given
  g = given sharing tops least

  pub parts_few : length plan.partials ≤ length tops.rows
  parts_few = omega (arith, ap (λ (ps : List Partial). length ps) (among_parts g plan is), among_few is.0 (partials g), all_few sharing tops least len)

  pub users_low : All (λ part. All (λ u. u < length tops.files_of_units) part.users) plan.partials
  users_low = subst (λ (ps : List Partial). All (λ part. All (λ u. u < length tops.files_of_units) part.users) ps) (sym (among_parts g plan is)) (users_left sharing tops least is.0)

  pub tops_low : All (λ part. All (λ t. t < length tops.rows) part.tops) plan.partials
  tops_low =
      subst (λ (ps : List Partial). All (λ part. All (λ t. t < length tops.rows) part.tops) ps) (sym (among_parts g plan is))
      (all_from_in (λ (part : Partial). All (λ t. t < length tops.rows) part.tops) (among is.0 (partials g))
      (λ part there. all_from_in (λ t. t < length tops.rows) part.tops
      (λ t held. omega (arith, (fits sharing tops least is.0 part (among_in is.0 (partials g) part there)).inside t held, length-rows_from tops.files_of_units 0 tops.rows least len))))

  pub held_few : All (λ part. length part.tops ≤ length tops.rows) plan.partials
  held_few =
      subst (λ (ps : List Partial). All (λ part. length part.tops ≤ length tops.rows) ps) (sym (among_parts g plan is))
      (all_from_in (λ (part : Partial). length part.tops ≤ length tops.rows) (among is.0 (partials g))
      (λ part there. omega (arith, (fits sharing tops least is.0 part (among_in is.0 (partials g) part there)).few, length-rows_from tops.files_of_units 0 tops.rows least len)))

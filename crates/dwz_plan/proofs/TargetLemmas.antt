-- The numbers of partial units that are left; and that targets of more tops than there are, or others, are no matter for groups.
use Rattle.std.proofs.Common.{◌≡◌, ℕ, ◌≤◌, ◌∙◌, cond, Bool, true, false, List, Option, Some, None, length, map, take, refl, sym, ap, subst, arith}
use Rattle.std.proofs.lemmas.List.{length-map}
use Rattle.dwz_groups.specs.declared.groups.Edge.{Edge}
use Rattle.dwz_groups.specs.declared.tops.Tops.{Tops}
use Rattle.dwz_groups.specs.Groups.{grouped}
use Rattle.dwz_groups.specs.Spreading.{IsSpread}
use Rattle.dwz_plan.specs.declared.plan.Home.{Home as Place}
use Rattle.dwz_plan.specs.declared.plan.Home.TheVariants.{Common as InCommon, Local as InFile, Stay as InUnit}
use Rattle.dwz_plan.specs.declared.plan.Partial.{Partial}
use Rattle.dwz_plan.specs.declared.plan.Scope.{Scope}
use Rattle.dwz_plan.specs.Gained.{AreMoves, IsGaining, among, before, group_of, groups_of, home_after, mark_at, part_seed, place_after}
use Rattle.dwz_plan.specs.Gaining.{AreNumbers, edges_from, weights_of}
use Rattle.dwz_plan.specs.Planned.{home, number_in, partials, partials_at, place, place_at, rep, representatives, users}
use Rattle.dwz_plan.specs.Rows.{Given, TopFacts, given, with_targets}
use Rattle.dwz_plan.specs.Steps.{is_in_unit}
use Rattle.dwz_plan.proofs.GainLemmas.{edges_short}
use Rattle.dwz_plan.proofs.GainedSteps.{before_low}
use Rattle.dwz_plan.proofs.RowLemmas.{length-rows_from}

-- ---- numbers of partial units

pub after_low : (marks : List Bool) (n : ℕ) (h : Place) → AreNumbers n (group_of h) → AreNumbers n (group_of (place_after marks h))
unfolding place_after
after_low marks n (InCommon p) l = by (mark_at marks p)
  where
    by : (b : Bool) → AreNumbers n (group_of (cond b (InCommon (before marks p)) InUnit))
    by true = omega (arith, l, before_low marks p)
    by false = tt
after_low marks n (InFile p) l = by (mark_at marks p)
  where
    by : (b : Bool) → AreNumbers n (group_of (cond b (InFile (before marks p)) InUnit))
    by true = omega (arith, l, before_low marks p)
    by false = tt
after_low marks n InUnit l = tt

pub numbers_more : (n m : ℕ) (o : Option ℕ) → n ≤ m → AreNumbers n o → AreNumbers m o
numbers_more n m None l is = tt
numbers_more n m (Some k) l is = omega (arith, l, is)

-- ---- targets

-- what targets there are is no matter for groups
pub parts_same : (targets : List (List ℕ)) (scope : Scope) (tops : Tops) (least : List ℕ) → partials (given scope tops least) ≡ partials (given scope (with_targets targets tops) least)
unfolding partials partials_at representatives users
parts_same targets scope tops least = refl

pub place_same : (targets : List (List ℕ)) (scope : Scope) (tops : Tops) (least : List ℕ) (a : TopFacts) → place (given scope tops least) a ≡ place (given scope (with_targets targets tops) least) a
unfolding place users
place_same targets scope tops least a = ap (λ (ps : List Partial). place_at (home (given scope tops least) a) (number_in ps (users (given scope tops least) a))) (parts_same targets scope tops least)

-- so are the targets of more tops than there are
pub moves_cut : (targets : List (List ℕ)) (k : ℕ) (scope : Scope) (tops : Tops) (least : List ℕ) (marks : List Bool) (parts : List Partial) (places : List Place) (stands : List ℕ)
    → length least ≡ length tops.rows → length tops.rows ≤ k → AreMoves (given scope (with_targets targets tops) least) marks parts places stands
    → AreMoves (given scope (with_targets (take k targets) tops) least) marks parts places stands
moves_cut targets k scope tops least marks parts places stands len few are =
    let g : Given = given scope (with_targets targets tops) least in
    let cut : Given = given scope (with_targets (take k targets) tops) least in
    let same : partials g ≡ partials cut = parts_same (take k targets) scope (with_targets targets tops) least in
    let place_is : (a : TopFacts) → place g a ≡ place cut a = place_same (take k targets) scope (with_targets targets tops) least in
    let groups : groups_of g ≡ groups_of cut = (λ i. map (λ a. group_of (place_is a i)) g.rows) in
    let many : length (groups_of g) ≤ k = omega (arith, few, length-map g.rows (λ a. group_of (place g a)), length-rows_from tops.files_of_units 0 tops.rows least len) in
    let edges : edges_from (groups_of g) (groups_of g) targets ≡ edges_from (groups_of cut) (groups_of cut) (take k targets) =
    sym (edges_short (groups_of g) (groups_of g) targets k many) ∙ (λ i. edges_from (groups i) (groups i) (take k targets)) in
    let gaining : IsGaining cut marks =
    subst (λ (ps : List Partial). IsSpread (grouped (length ps) (edges_from (groups_of cut) (groups_of cut) (take k targets))) (map (part_seed (weights_of tops.rows)) ps) marks) same
    (subst (λ (es : List Edge). IsSpread (grouped (length (partials g)) es) (map (part_seed (weights_of tops.rows)) (partials g)) marks) edges are.gaining) in
    let after : (a : TopFacts) → home_after marks g a ≡ home_after marks cut a = λ a. ap (place_after marks) (place_is a) in
    record {
      gaining = gaining;
      partials = are.partials ∙ ap (λ (ps : List Partial). among marks ps) same;
      homes = are.homes ∙ (λ i. map (λ a. after a i) g.rows);
      stand_ins = are.stand_ins ∙ (λ i. map (λ a. cond (is_in_unit (after a i)) a.number (rep g a)) g.rows);
    }

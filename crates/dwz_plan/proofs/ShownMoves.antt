-- What shows the plan by a rule shows the move that it is.
use Rattle.std.proofs.Common.{◌≡◌, ℕ, true, List, map, refl, sym, ap, subst, ◌∙◌}
use Rattle.std.specs.List.{range_with_len}
use Rattle.dwz_def_reading.specs.Lists.{In}
use Rattle.dwz_def_tops.specs.Spots.{EntryName, FileUnit, Top}
use Rattle.dwz_def_plan.specs.Homes.{Home, Rule, is_home, rep, users}
use Rattle.dwz_def_plan.specs.Moves.{Move, plan}
use Rattle.dwz_def_plan.specs.Plan.{kept, staying}
use Rattle.dwz_def_plan.proofs.UserLemmas.{move_stand}
use Rattle.dwz_plan.specs.declared.plan.Home.{Home as Place}
use Rattle.dwz_plan.specs.declared.plan.Home.TheVariants.{Common as InCommon, Local as InFile, Stay as InUnit}
use Rattle.dwz_plan.specs.Planned.{Planned}
use Rattle.dwz_plan.specs.Shows.{IsPlace, PartAt, ShowsPlan}
use Rattle.dwz_plan.specs.ShowsMove.{HoldsAt, IsPlaceIn, ShowsMove, kept_in, staying_in}

module _ (rule : Rule) (units : List (FileUnit EntryName)) (files : ℕ) where
  abbrev fs : List ℕ
  fs = range_with_len 0 files

  abbrev m : Move
  m = plan rule units fs

  holds_at : (n p : ℕ) (h : Home) → m.gone n ≡ true → PartAt m.parts p h (users rule.alike units n) (rep rule.alike units n) → HoldsAt m.parts p h (m.stand n)
  holds_at n p h gone at = record {
    part = at.part;
    there = at.there;
    home = at.home;
    holds = subst (λ (r : ℕ). In r (map (λ (t : Top). t.number) at.part.tops)) (sym (move_stand units rule n gone)) at.holds;
  }

  place_in : (n : ℕ) (p : Place) → IsPlace rule units m.parts n p → IsPlaceIn m n p
  place_in n (InCommon p) is = (let gone = ap is_home is.0 in (gone, holds_at n p _ gone is.1))
  place_in n (InFile p) is = (let gone = ap is_home is.1 in (is.0, gone, holds_at n p _ gone is.2))
  place_in n InUnit is = ap is_home is

  kept_is : (unit : ℕ) → kept rule units unit ≡ kept_in m units unit
  unfolding kept kept_in staying staying_in
  kept_is unit = refl

  pub plan_moves : (planned : Planned) → ShowsPlan rule units files planned → ShowsMove m units files planned
  plan_moves planned shows = record {
    partials = shows.partials;
    homes = λ t there. place_in t.number _ (shows.homes t there);
    stand_ins = shows.stand_ins;
    kept = λ unit l. shows.kept unit l ∙ ap (map (λ (t : Top). t.number)) (kept_is unit);
    imports = shows.imports;
  }

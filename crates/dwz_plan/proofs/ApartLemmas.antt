-- The partial units of all tops with a home are groups.
use Rattle.std.proofs.Common.{◌≡◌, ℕ, ◌+◌, ◌==◌, ◌&&◌, Bool, true, false, List, refl, sym, subst, ◌∙◌, inl, inr, arith}
use Rattle.std.specs.List.{filter}
use Rattle.dwz_def_reading.specs.Lists.{In}
use Rattle.dwz_def_reading.proofs.ListFacts.{in_cases}
use Rattle.dwz_def_tops.specs.Lists.{Rising}
use Rattle.dwz_def_tops.proofs.Members.{each_in, filter_same, nth_in, nth_of, nth_pair}
use Rattle.dwz_def_tops.specs.Deciding.{Test}
use Rattle.dwz_def_tops.specs.Spots.{EntryName, FileUnit, Top, same_numbers, tops_of}
use Rattle.dwz_def_plan.specs.Gain.{in_group}
use Rattle.dwz_def_plan.specs.Homes.{Common, Home, Local, Rule, all_rule, candidate, home, rep, same_home}
use Rattle.dwz_def_plan.specs.IsPlan.{IsPart}
use Rattle.dwz_def_plan.specs.Plan.{PartialUnit, local_partials, partial_with, partials, partials_at, representatives, stands_for, users_of}
use Rattle.dwz_def_plan.proofs.PlanLemmas.{are_parts, at_home, file_from, parts_differ}
use Rattle.dwz_plan.specs.Groups.{AreApart, HoldsGroup}
use Rattle.dwz_plan.proofs.FilterLemmas.{filter_both}

regroup : (a b c : Bool) → ((a && b) && c) ≡ ((a && c) && b)
regroup true true true = refl
regroup true true false = refl
regroup true false true = refl
regroup true false false = refl
regroup false b c = refl

module _ (alike : Test) (units : List (FileUnit EntryName)) where
  abbrev all : Rule
  all = all_rule alike

  abbrev own : PartialUnit → Top → Bool
  own part t = in_group alike units part.home part.users t && rep alike units t.number == t.number

  tops_at : (h : Home) (us : List ℕ) → (partial_with all units h us).tops ≡ filter (own (partial_with all units h us)) (tops_of units)
  unfolding representatives home
  tops_at h us =
      filter_both (stands_for all units h) (λ t. same_numbers (users_of alike units t) us) (tops_of units)
      ∙ filter_same (λ t. stands_for all units h t && same_numbers (users_of alike units t) us) (own (partial_with all units h us)) (tops_of units)
      (λ t. regroup (same_home (candidate alike units t.number) h) (rep alike units t.number == t.number) (same_numbers (users_of alike units t) us))

  tops_are : (files : List ℕ) (part : PartialUnit) → In part (partials all units files) → part.tops ≡ filter (own part) (tops_of units)
  unfolding partials
  tops_are files part is = elim (in_cases part (partials_at all units Common) (local_partials all units files) is) [
    | inl a ↦ at Common a
    | inr b ↦ (let o = file_from all units files part b in at (Local o.file) o.is)
  ]
    where
      at : (h : Home) → In part (partials_at all units h) → part.tops ≡ filter (own part) (tops_of units)
      at h i = let o = at_home all units h part i in subst (λ (p : PartialUnit). p.tops ≡ filter (own p) (tops_of units)) o.is (tops_at h o.list)

  holds : (files : List ℕ) (part : PartialUnit) → In part (partials all units files) → HoldsGroup alike units part
  unfolding home
  holds files part is =
      let p = each_in (IsPart all units) part (partials all units files) (are_parts all units files) is in
      let b = (p.tops p.some.0).0 p.some.1 in
      record { home = p.moves; tops = tops_are files part is; some = (p.some.0, b.there, b.home, b.users) }

  pub groups_apart : (files : List ℕ) → Rising files → AreApart alike units (partials all units files)
  groups_apart files rises =
      let parts = partials all units files in
      record {
        each = λ g part e. holds files part (nth_in 0 parts (0 + g) part (nth_of 0 parts g part e));
        once = λ g h part other e f home users. (
            let n = nth_pair (λ (p q : PartialUnit). p.home ≡ q.home → p.users ≡ q.users → ⊥) 0 parts (0 + g) (0 + h) part other (parts_differ all units files rises) (nth_of 0 parts g part e)
            (nth_of 0 parts h other f) (λ d. d home users) (λ d. d (sym home) (sym users)) in
            omega (arith, n));
      }

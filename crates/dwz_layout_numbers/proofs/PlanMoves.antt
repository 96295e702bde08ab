-- What is asked of a move holds of the plan.
use Rattle.std.proofs.Common.{◌≡◌, ◌⊎◌, ℕ, Bool, true, false, List, [], ◌∷◌, ◌++◌, length, refl, sym, ap, subst, ◌∙◌, inl, inr}
use Rattle.std.specs.List.{range_with_len}
use Rattle.dwz_def_reading.specs.Documents.{Doc}
use Rattle.dwz_def_reading.specs.Lists.{In}
use Rattle.dwz_def_tops.proofs.Members.{nth_in}
use Rattle.dwz_def_tops.specs.Alike.{IsAlike, Look, SameTop, TopScope}
use Rattle.dwz_def_tops.specs.Deciding.{Test}
use Rattle.dwz_def_tops.specs.Spots.{EntryName, FileUnit, Top, name_list, tops_of, units_of}
use Rattle.dwz_def_images.specs.Homes.{Common, Local, Rule, first_alike, moves}
use Rattle.dwz_def_images.specs.IsPlan.{Has, OfTop}
use Rattle.dwz_def_images.specs.Moves.{plan}
use Rattle.dwz_def_images.specs.Plan.{local_partials, partials, partials_at, stand_in}
use Rattle.dwz_def_images.proofs.UserLemmas.{Fair}
use Rattle.dwz_plan.proofs.BridgeLemmas.{file_numbers_are}
use Rattle.dwz_def_images.specs.Units.{changes}
use Rattle.dwz_def_images.proofs.HeldLemmas.{row_found}
use Rattle.dwz_layout_numbers.specs.Images.{HaveStandIns, SameShape}
use Rattle.dwz_layout_numbers.specs.Numbering.{AreInOrder, parts_at}
use Rattle.dwz_layout_numbers.specs.OwnerLaws.{HoldTops}
use Rattle.dwz_plan.specs.MoveOf.{move_of}
use Rattle.dwz_layout_numbers.proofs.Paths.{shape_same, shape_self}
use Rattle.dwz_layout_numbers.proofs.PlanParts.{home_at, in_order, none_still, row_holds}

-- ---- the top that stands for one

pub record AlikeTo (alike : Test) (tops : List Top) (n r : ℕ) : Type 0 where
  pub top : Top
  pub there : In top tops
  pub number : top.number ≡ r
  pub is : alike n r ≡ true

first_cases : (alike : Test) (n : ℕ) (tops : List Top) → (first_alike alike n tops ≡ n) ⊎ AlikeTo alike tops n (first_alike alike n tops)
unfolding first_alike
first_cases alike n [] = inl refl
first_cases alike n (t ∷ tops) = go (first_cases alike n tops) (alike n t.number) refl where
  go : (first_alike alike n tops ≡ n) ⊎ AlikeTo alike tops n (first_alike alike n tops) → (b : Bool) → alike n t.number ≡ b
      → (elim b as (λ _. ℕ) [ true ↦ t.number | false ↦ first_alike alike n tops ] ≡ n) ⊎ AlikeTo alike (t ∷ tops) n (elim b as (λ _. ℕ) [ true ↦ t.number | false ↦ first_alike alike n tops ])
  go more true q = inr (record { top = t; there = inl refl; number = refl; is = q })
  go (inl e) false q = inl e
  go (inr h) false q = inr (record { top = h.top; there = inr h.there; number = h.number; is = h.is })

pub stand_cases : (rule : Rule) (units : List (FileUnit EntryName)) (n : ℕ) → (stand_in rule units n ≡ n) ⊎ AlikeTo rule.alike (tops_of units) n (stand_in rule units n)
unfolding stand_in
stand_cases rule units n = go (moves rule units n) where
  go : (b : Bool) → (elim b as (λ _. ℕ) [ true ↦ first_alike rule.alike n (tops_of units) | false ↦ n ] ≡ n) ⊎ AlikeTo rule.alike (tops_of units) n
      (elim b as (λ _. ℕ) [ true ↦ first_alike rule.alike n (tops_of units) | false ↦ n ])
  go true = first_cases rule.alike n (tops_of units)
  go false = inl refl

-- alike tops have one shape
pub alike_shape : (scope : TopScope) (units : List (FileUnit EntryName)) (alike : Test) → IsAlike scope units alike → (a b : Top) → In a (tops_of units) → In b (tops_of units)
    → alike a.number b.number ≡ true → SameShape a.below b.below
unfolding Look
alike_shape scope units alike d a b is js e =
    let h = (d.decides a.number b.number e).equal 1 in
    let s : SameTop (Look (tops_of units) 0) a b = h a b is js refl refl in
    shape_same (Look (tops_of units) 0) a.below b.below s.3

pub plan_stands : (scope : TopScope) (docs : List (Doc ℕ)) (rule : Rule) → IsAlike scope (units_of docs) rule.alike → (files : List ℕ) → HaveStandIns docs (plan rule (units_of docs) files)
plan_stands scope docs rule alike files t is = elim (stand_cases rule (units_of docs) t.number) [
  | inl e ↦ record { top = t; there = is; number = sym e; shape = shape_self t.below }
  | inr h ↦ record {
    top = h.top;
    there = h.there;
    number = h.number;
    shape = alike_shape scope (units_of docs) rule.alike alike t h.top is h.there (ap (rule.alike t.number) h.number ∙ h.is);
  }
]

-- ---- partial units

pub plan_holds : (rule : Rule) (units : List (FileUnit EntryName)) (files : List ℕ) → HoldTops units (plan rule units files)
plan_holds rule units files n part nth t is holds =
    subst (Has (name_list t) (OfTop t)) (sym (row_found rule units files n part nth)) (row_holds rule units files n part (nth_in 0 (partials rule units files) n part nth) t is holds)

module _ (docs : List (Doc ℕ)) (rule : Rule) where
  abbrev units : List (FileUnit EntryName)
  units = units_of docs

  parts_are : (move_of rule docs).parts ≡ partials_at rule units Common ++ local_partials rule units (range_with_len 0 (length docs))
  unfolding partials
  parts_are = ap (partials rule units) (file_numbers_are 0 docs)

  pub plan_order : AreInOrder (move_of rule docs) (length docs)
  plan_order = in_order (move_of rule docs) rule units (partials_at rule units Common) (length docs) parts_are (home_at rule units Common)

  pub plan_still : Fair (units_of docs) rule → (file : ℕ) → changes (move_of rule docs) (units_of docs) file ≡ false → parts_at (move_of rule docs) (Local file) ≡ []
  plan_still fair = none_still (move_of rule docs) rule units (partials_at rule units Common) (length docs) parts_are (home_at rule units Common) fair (λ k e. e)

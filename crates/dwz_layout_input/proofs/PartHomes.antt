-- In which files the partial units of a plan are; where each file is by itself, none is in the common one.
use Rattle.std.proofs.Common.{◌≡◌, ◌≢◌, ℕ, suc, ◌<◌, ◌≤◌, ◌⊎◌, All, Bool, true, false, List, [], ◌∷◌, refl, sym, ap, subst, ◌∙◌, inl, inr, arith}
use Rattle.std.specs.List.{list_any, range_with_len}
use Rattle.dwz_def_reading.specs.Documents.{DwUnit}
use Rattle.dwz_def_reading.specs.Lists.{In}
use Rattle.dwz_def_reading.proofs.ListFacts.{in_cases}
use Rattle.dwz_def_tops.proofs.Members.{each_in, in_map_from}
use Rattle.dwz_def_tops.specs.Alike.{Apart, IsAlike}
use Rattle.dwz_def_tops.specs.Spots.{EntryName, FileUnit}
use Rattle.dwz_def_images.specs.Homes.{Common, Home, Local, Rule, home, is_home, moves, same_home}
use Rattle.dwz_def_images.specs.IsPlan.{IsPart}
use Rattle.dwz_def_images.specs.Moves.{Move}
use Rattle.dwz_def_images.specs.Plan.{PartialUnit, local_partials, partials, partials_at}
use Rattle.dwz_def_images.proofs.HomeLemmas.{not_common}
use Rattle.dwz_def_images.proofs.PlanLemmas.{are_parts, file_from, home_at, home_true}
use Rattle.dwz_def_images.proofs.UserLemmas.{moving}
use Rattle.dwz_def_images.specs.Units.{partial_unit, partial_units}
use Rattle.dwz_plan.specs.declared.plan.Partial.{Partial}
use Rattle.dwz_plan.specs.Planned.{Planned, file_of_home}
use Rattle.dwz_plan.specs.Shows.{ShowsPlan, shown_part}
use Rattle.dwz_plan.proofs.ListFacts.{all_from_in, any_not, in_range}

-- ---- homes of partial units

-- the common file, or one of so many files
abbrev IsOneOf : ℕ → Home → Type 0
IsOneOf n h = (h ≡ Common) ⊎ ((f : ℕ) × (f < n) × (h ≡ Local f))

home_in_files : (rule : Rule) (units : List (FileUnit EntryName)) (n : ℕ) (part : PartialUnit) → In part (partials rule units (range_with_len 0 n)) → IsOneOf n part.home
unfolding partials
home_in_files rule units n part is = elim (in_cases part (partials_at rule units Common) (local_partials rule units (range_with_len 0 n)) is) [
  | inl here ↦ inl (home_at rule units Common part here)
  | inr there ↦ (let o = file_from rule units (range_with_len 0 n) part there in inr (o.file, omega (arith, in_range o.file 0 n o.there), home_at rule units (Local o.file) part o.is))
]

-- where each file is a scope, none is the common file
pub no_home : (units : List (FileUnit EntryName)) (rule : Rule) → IsAlike Apart units rule.alike → (files : List ℕ) (part : PartialUnit) → In part (partials rule units files) → part.home ≢ Common
no_home units rule is files part there e =
    let p = each_in (IsPart rule units) part (partials rule units files) (are_parts rule units files) there in
    let b = (p.tops p.some.0).0 p.some.1 in
    let at_home : home rule units p.some.0.number ≡ Common = b.home ∙ e in
    let moved : moves rule units p.some.0.number ≡ true = ap is_home at_home in
    not_common units rule.alike is p.some.0.number (sym (moving units rule p.some.0.number moved).at_home ∙ at_home)

pub none_home : (units : List (FileUnit EntryName)) (rule : Rule) → IsAlike Apart units rule.alike → (files : List ℕ)
    → list_any (λ part. same_home part.home Common) (partials rule units files) ≡ false
none_home units rule is files = any_not (λ (part : PartialUnit). same_home part.home Common) (partials rule units files) (λ part there. by part there (same_home part.home Common) refl) where
  by : (part : PartialUnit) → In part (partials rule units files) → (b : Bool) → same_home part.home Common ≡ b → same_home part.home Common ≡ false
  by part there false e = e
  by part there true e = absurd (no_home units rule is files part there (home_true part.home Common e))

pub no_units : (m : Move) (n : ℕ) (parts : List PartialUnit) → ((part : PartialUnit) → In part parts → part.home ≢ Common) → partial_units m Common n parts ≡ []
unfolding partial_units
no_units m n [] none = refl
no_units m n (part ∷ parts) none = by (same_home part.home Common) refl (no_units m (suc n) parts (λ p is. none p (inr is))) where
  by : (b : Bool) → same_home part.home Common ≡ b → partial_units m Common (suc n) parts ≡ []
      → elim b as (λ _. List (DwUnit EntryName)) [ true ↦ partial_unit m n ∷ partial_units m Common (suc n) parts | false ↦ partial_units m Common (suc n) parts ] ≡ []
  by true e rest = absurd (none part (inl refl) (home_true part.home Common e))
  by false e rest = rest

-- ---- files of partial units

-- the partial unit of units that one of the plan shows
record Shown (rule : Rule) (units : List (FileUnit EntryName)) (n : ℕ) (part : Partial) : Type 0 where
  unit : PartialUnit
  there : In unit (partials rule units (range_with_len 0 n))
  file : part.file ≡ file_of_home n unit.home

shown : (rule : Rule) (units : List (FileUnit EntryName)) (n : ℕ) (plan : Planned) → ShowsPlan rule units n plan → (part : Partial) → In part plan.partials → Shown rule units n part
shown rule units n plan shows part is =
    let o = in_map_from (shown_part n) part (partials rule units (range_with_len 0 n)) (subst (λ (ps : List Partial). In part ps) (sym shows.partials) is) in
    record { unit = o.source; there = o.there; file = ap (λ (p : Partial). p.file) (sym o.is) }

file_low : (n : ℕ) (h : Home) → IsOneOf n h → file_of_home n h ≤ n
file_low n h (inl e) = (let same : file_of_home n h ≡ n = ap (file_of_home n) e in omega (arith, same))
file_low n h (inr f) = (let same : file_of_home n h ≡ f.0 = ap (file_of_home n) f.2 in omega (arith, same, f.1))

pub files_low : (rule : Rule) (units : List (FileUnit EntryName)) (n : ℕ) (plan : Planned) → ShowsPlan rule units n plan → All (λ part. part.file ≤ n) plan.partials
files_low rule units n plan shows = all_from_in (λ (part : Partial). part.file ≤ n) plan.partials
    (λ part is. (let o = shown rule units n plan shows part is in omega (arith, o.file, file_low n o.unit.home (home_in_files rule units n o.unit o.there))))

own_low : (n : ℕ) (h : Home) → h ≢ Common → IsOneOf n h → file_of_home n h < n
own_low n h other (inl e) = absurd (other e)
own_low n h other (inr f) = (let same : file_of_home n h ≡ f.0 = ap (file_of_home n) f.2 in omega (arith, same, f.1))

pub own_files_by : (rule : Rule) (units : List (FileUnit EntryName)) (n : ℕ) (plan : Planned) → ((part : PartialUnit) → In part (partials rule units (range_with_len 0 n)) → part.home ≢ Common)
    → ShowsPlan rule units n plan → All (λ part. part.file < n) plan.partials
own_files_by rule units n plan other shows = all_from_in (λ (part : Partial). part.file < n) plan.partials
    (λ part there. (
    let o = shown rule units n plan shows part there in
    omega (arith, o.file, own_low n o.unit.home (other o.unit o.there) (home_in_files rule units n o.unit o.there))))

pub own_files : (rule : Rule) (units : List (FileUnit EntryName)) (n : ℕ) (plan : Planned) → IsAlike Apart units rule.alike → ShowsPlan rule units n plan → All (λ part. part.file < n) plan.partials
own_files rule units n plan is shows = own_files_by rule units n plan (no_home units rule is (range_with_len 0 n)) shows

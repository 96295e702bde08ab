-- Where no rows stand behind those of files, their plan by a rule is so planned.
use Rattle.std.proofs.Common.{◌≡◌, ◌⊎◌, ℕ, zero, suc, ◌<◌, ◌≤◌, List, [], ◌∷◌, ◌++◌, length, map, refl, sym, ap, subst, ◌∙◌, inl, inr, arith}
use Rattle.std.specs.Prelude.{slice_index_or}
use Rattle.std.specs.List.{range_with_len}
use Rattle.std.proofs.lemmas.List.{append-nil}
use Rattle.dwz_def_reading.specs.Lists.{In}
use Rattle.dwz_def_reading.proofs.ListFacts.{got_below, in_cases}
use Rattle.dwz_def_reading.specs.Documents.{Doc}
use Rattle.dwz_def_tops.proofs.Members.{in_map_from, nth_get}
use Rattle.dwz_def_tops.specs.Spots.{EntryName, FileUnit, file_numbers, units_of}
use Rattle.dwz_groups.specs.declared.tops.Tops.{Tops}
use Rattle.dwz_def_images.specs.Homes.{Common, Home, Local, Rule}
use Rattle.dwz_def_images.specs.Moves.{plan}
use Rattle.dwz_def_images.specs.Plan.{PartialUnit, distinct, local_partials, partial_with, partials, partials_at, representatives, users_of}
use Rattle.dwz_def_images.proofs.PlanLemmas.{distinct_in}
use Rattle.dwz_def_images.proofs.UserLemmas.{Numbered, user_unit}
use Rattle.dwz_plan.specs.declared.plan.Home.TheVariants.{Stay as InUnit}
use Rattle.dwz_plan.specs.Planned.{Planned}
use Rattle.dwz_plan.specs.Shows.{ShowsPlan, ShowsTops}
use Rattle.dwz_plan.specs.ShowsMove.{ShowsMove}
use Rattle.dwz_plan.proofs.BridgeLemmas.{file_numbers_are}
use Rattle.dwz_plan.proofs.ShownMoves.{plan_moves}
use Rattle.dwz_plan.specs.MoveOf.{move_of}
use Rattle.dwz_layout_order.specs.Behind.{ArePlannedFirst}
use Rattle.dwz_layout_order.proofs.FitLemmas.{IsHomeOf, home_of, in_range}

-- ---- users are units

at_users : (rule : Rule) (units : List (FileUnit EntryName)) (h : Home) (p : PartialUnit) → In p (partials_at rule units h) → (u : ℕ) → In u p.users → Numbered 0 units u
unfolding partials_at
at_users rule units h p there u is =
    let o = in_map_from (partial_with rule units h) p (distinct (map (users_of rule.alike units) (representatives rule units h))) there in
    let t = in_map_from (users_of rule.alike units) o.source (representatives rule units h) (distinct_in o.source (map (users_of rule.alike units) (representatives rule units h)) o.there) in
    let same : p.users ≡ users_of rule.alike units t.source = sym (ap (λ (w : PartialUnit). w.users) o.is) ∙ sym t.is in
    user_unit rule.alike units t.source.number u (subst (In u) same is)

local_users : (rule : Rule) (units : List (FileUnit EntryName)) (files : List ℕ) (p : PartialUnit) → In p (local_partials rule units files) → (u : ℕ) → In u p.users → Numbered 0 units u
unfolding local_partials
local_users rule units [] p there u is = absurd there
local_users rule units (file ∷ files) p there u is = elim (in_cases p (partials_at rule units (Local file)) (local_partials rule units files) there) [
  | inl a ↦ at_users rule units (Local file) p a u is
  | inr b ↦ local_users rule units files p b u is
]

users_there : (rule : Rule) (units : List (FileUnit EntryName)) (files : List ℕ) (p : PartialUnit) → In p (partials rule units files) → (u : ℕ) → In u p.users → Numbered 0 units u
unfolding partials
users_there rule units files p there u is = elim (in_cases p (partials_at rule units Common) (local_partials rule units files) there) [
  | inl a ↦ at_users rule units Common p a u is
  | inr b ↦ local_users rule units files p b u is
]

-- so they are among these
pub users_low : (rule : Rule) (units : List (FileUnit EntryName)) (files : List ℕ) (p : PartialUnit) → In p (partials rule units files) → (u : ℕ) → In u p.users → u < length units
users_low rule units files p there u is =
    let n = users_there rule units files p there u is in
    got_below units u n.one (nth_get 0 units u u n.one n.nth (omega arith))

-- ---- homes are files, or the common one

home_low : (count : ℕ) (h : Home) → IsHomeOf (range_with_len 0 count) h → (h ≡ Common) ⊎ ((file : ℕ) × (file < count) × (h ≡ Local file))
home_low count h (inl e) = inl e
home_low count h (inr o) = inr (o.0, (let low = in_range 0 count o.0 o.1 in omega arith), o.2)

pub homes_low : (rule : Rule) (docs : List (Doc ℕ)) (p : PartialUnit) → In p (partials rule (units_of docs) (file_numbers 0 docs))
    → (p.home ≡ Common) ⊎ ((file : ℕ) × (file < length docs) × (p.home ≡ Local file))
homes_low rule docs p there =
    home_low (length docs) p.home
    (home_of rule (units_of docs) (range_with_len 0 (length docs)) p (subst (λ (fs : List ℕ). In p (partials rule (units_of docs) fs)) (file_numbers_are 0 docs) there))

-- ---- all

pub nothing_at : {X : Type 0} (xs : List X) (n : ℕ) (d : X) → length xs ≤ n → slice_index_or xs n d ≡ d
nothing_at [] n d le = refl
nothing_at (x ∷ xs) zero d le = absurd (omega arith)
nothing_at (x ∷ xs) (suc n) d le = nothing_at xs n d (omega arith)

pub planned_alone : (docs : List (Doc ℕ)) (rule : Rule) (tops : Tops) (planned : Planned) → ShowsTops (units_of docs) tops → ShowsPlan rule (units_of docs) (length docs) planned
    → length planned.homes ≡ length tops.rows → ArePlannedFirst (move_of rule docs) (units_of docs) (length docs) tops planned
planned_alone docs rule tops planned shows is long = record {
  rows = record { own = tops; shows = shows; rows_behind = []; rows = sym (append-nil tops.rows); files_behind = []; files_of_units = sym (append-nil tops.files_of_units) };
  moves = subst (λ (fs : List ℕ). ShowsMove (plan rule (units_of docs) fs) (units_of docs) (length docs) planned) (sym (file_numbers_are 0 docs)) (plan_moves rule (units_of docs) (length docs) planned is);
  stay = λ n le. nothing_at planned.homes n InUnit (omega arith);
  homes = homes_low rule docs;
  users = users_low rule (units_of docs) (file_numbers 0 docs);
}

-- In which file partial units and old units stand after.
use Rattle.std.proofs.Common.{◌≡◌, ℕ, suc, Bool, true, false, List, [], ◌∷◌, ◌==◌, refl, sym, ap, subst, ◌∙◌, inl, inr, eqb-true}
use Rattle.dwz_def_reading.specs.Documents.{DwUnit}
use Rattle.dwz_def_reading.specs.Lists.{In}
use Rattle.dwz_def_tops.specs.Lists.{Nth}
use Rattle.dwz_def_tops.proofs.Members.{each_in, nth_in}
use Rattle.dwz_def_tops.specs.Alike.{Apart, IsAlike, TopScope}
use Rattle.dwz_def_tops.specs.Spots.{EntryName, FileUnit, Top}
use Rattle.dwz_def_tops.proofs.AlikePer.{alike_per}
use Rattle.dwz_def_images.specs.Homes.{Common, Home, IsChoice, Local, Rule, home, is_home, moves, same_home, users}
use Rattle.dwz_def_images.specs.IsPlan.{IsHome, IsPart}
use Rattle.dwz_def_images.specs.Moves.{Move}
use Rattle.dwz_def_images.specs.Plan.{PartialUnit, partials}
use Rattle.dwz_def_images.proofs.HomeLemmas.{file_of_top, home_is, not_common}
use Rattle.dwz_def_images.proofs.PlanLemmas.{are_parts, home_true}
use Rattle.dwz_def_images.proofs.UserLemmas.{Fair, moves_self, moving, used}
use Rattle.dwz_def_images.specs.Units.{kept_unit, kept_units, partial_unit, partial_units}

-- ---- what stands in a file

pub record PartIn (m : Move) (h : Home) (s : ℕ) (parts : List PartialUnit) (v : DwUnit EntryName) : Type 0 where
  pub number : ℕ
  pub part : PartialUnit
  pub nth : Nth s parts number part
  pub home_is : part.home ≡ h
  pub is : partial_unit m number ≡ v

pub parts_from : (m : Move) (h : Home) (s : ℕ) (parts : List PartialUnit) (v : DwUnit EntryName) → In v (partial_units m h s parts) → PartIn m h s parts v
unfolding partial_units
parts_from m h s [] v is = absurd is
parts_from m h s (p ∷ parts) v is = by (λ r. later (parts_from m h (suc s) parts v r)) (same_home p.home h) refl is where
  later : PartIn m h (suc s) parts v → PartIn m h s (p ∷ parts) v
  later o = record { number = o.number; part = o.part; nth = inr o.nth; home_is = o.home_is; is = o.is }

  by : (In v (partial_units m h (suc s) parts) → PartIn m h s (p ∷ parts) v) → (b : Bool) → same_home p.home h ≡ b
      → In v (elim b as (λ _. List (DwUnit EntryName)) [ true ↦ partial_unit m s ∷ partial_units m h (suc s) parts | false ↦ partial_units m h (suc s) parts ]) → PartIn m h s (p ∷ parts) v
  by rest true e (inl x) = record { number = s; part = p; nth = inl (refl, refl); home_is = home_true p.home h e; is = x }
  by rest true e (inr r) = rest r
  by rest false e r = rest r

pub record KeptIn (m : Move) (all : List (FileUnit EntryName)) (file s : ℕ) (some : List (FileUnit EntryName)) (v : DwUnit EntryName) : Type 0 where
  pub number : ℕ
  pub unit : FileUnit EntryName
  pub nth : Nth s some number unit
  pub file_is : unit.file ≡ file
  pub is : kept_unit m all number unit ≡ v

pub kept_from : (m : Move) (all : List (FileUnit EntryName)) (file s : ℕ) (some : List (FileUnit EntryName)) (v : DwUnit EntryName) → In v (kept_units m all file s some) → KeptIn m all file s some v
unfolding kept_units
kept_from m all file s [] v is = absurd is
kept_from m all file s (u ∷ some) v is = by (λ r. later (kept_from m all file (suc s) some v r)) (u.file == file) refl is where
  later : KeptIn m all file (suc s) some v → KeptIn m all file s (u ∷ some) v
  later o = record { number = o.number; unit = o.unit; nth = inr o.nth; file_is = o.file_is; is = o.is }

  by : (In v (kept_units m all file (suc s) some) → KeptIn m all file s (u ∷ some) v) → (b : Bool) → (u.file == file) ≡ b
      → In v (elim b as (λ _. List (DwUnit EntryName)) [ true ↦ kept_unit m all s u ∷ kept_units m all file (suc s) some | false ↦ kept_units m all file (suc s) some ])
      → KeptIn m all file s (u ∷ some) v
  by rest true e (inl x) = record { number = s; unit = u; nth = inl (refl, refl); file_is = eqb-true u.file file e; is = x }
  by rest true e (inr r) = rest r
  by rest false e r = rest r

pub none_is_nil : {X : Type 0} (xs : List X) → ((x : X) → In x xs → ⊥) → xs ≡ []
none_is_nil [] none = refl
none_is_nil (x ∷ xs) none = absurd (none x (inl refl))

-- ---- homes

module _ (scope : TopScope) (units : List (FileUnit EntryName)) (rule : Rule) (is : IsAlike scope units rule.alike) (choice : IsChoice units rule) (files : List ℕ) where
  pub part_is : (n : ℕ) (part : PartialUnit) → Nth 0 (partials rule units files) n part → IsPart rule units part
  part_is n part nth = each_in (IsPart rule units) part (partials rule units files) (are_parts rule units files) (nth_in 0 (partials rule units files) n part nth)

  -- a top in a partial unit of a file is of that file
  pub top_file : (file n : ℕ) (part : PartialUnit) → Nth 0 (partials rule units files) n part → part.home ≡ Local file → (t : Top) → In t part.tops → t.file ≡ file
  top_file file n part nth local t there =
      let b = ((part_is n part nth).tops t).0 there in
      let at_home : home rule units t.number ≡ Local file = b.home ∙ local in
      let moved : moves rule units t.number ≡ true = ap is_home at_home in
      let fair : Fair units rule = record { per = alike_per scope units rule.alike is; choice = choice } in
      let found : IsHome units (users rule.alike units t.number) (Local file) = subst (IsHome units (users rule.alike units t.number)) (sym (moving units rule t.number moved).at_home ∙ at_home)
      (home_is rule.alike units t.number) in
      let user = used rule.alike units t.number t b.there (moves_self units rule fair t.number moved) in
      sym (file_of_top units t b.there) ∙ found.5 t.unit user

-- where each file is a scope, no partial unit is of the common file
pub no_common : (units : List (FileUnit EntryName)) (rule : Rule) → IsAlike Apart units rule.alike → (files : List ℕ) (m : Move) → m.parts ≡ partials rule units files
    → partial_units m Common 0 m.parts ≡ []
no_common units rule is files m same = none_is_nil (partial_units m Common 0 m.parts) (λ v there.
    (let o = parts_from m Common 0 m.parts v there in
    let nth = subst (λ (ps : List PartialUnit). Nth 0 ps o.number o.part) same o.nth in
    let p = each_in (IsPart rule units) o.part (partials rule units files) (are_parts rule units files) (nth_in 0 (partials rule units files) o.number o.part nth) in
    let b = (p.tops p.some.0).0 p.some.1 in
    let at_home : home rule units p.some.0.number ≡ Common = b.home ∙ o.home_is in
    let moved : moves rule units p.some.0.number ≡ true = ap is_home at_home in
    not_common units rule.alike is p.some.0.number (sym (moving units rule p.some.0.number moved).at_home ∙ at_home)))

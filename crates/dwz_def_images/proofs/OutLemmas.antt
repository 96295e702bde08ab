-- Which units stand after.
use Rattle.std.proofs.Common.{◌≡◌, ℕ, suc, ◌⊎◌, ◌==◌, Bool, true, false, List, [], ◌∷◌, refl, sym, ap, subst, ◌∙◌, inl, inr, eq-eqb}
use Rattle.dwz_def_reading.specs.Documents.{DwUnit}
use Rattle.dwz_def_reading.specs.Lists.{In}
use Rattle.dwz_def_reading.proofs.ListFacts.{in_cases, in_left, in_right}
use Rattle.dwz_def_tops.specs.Lists.{Nth}
use Rattle.dwz_def_tops.proofs.Members.{each_in, nth_in}
use Rattle.dwz_def_tops.specs.Spots.{EntryName, FileUnit}
use Rattle.dwz_def_plan.specs.Homes.{Common, Home, Local, Rule, Stay, is_home, same_home}
use Rattle.dwz_def_plan.specs.IsPlan.{IsPart}
use Rattle.dwz_def_plan.specs.Moves.{Move, plan}
use Rattle.dwz_def_plan.specs.Plan.{PartialUnit, local_partials, partials, partials_at}
use Rattle.dwz_def_images.specs.Units.{all_units, common_units, file_units, kept_unit, kept_units, out_units, partial_unit, partial_units}
use Rattle.dwz_def_plan.proofs.PlanLemmas.{are_parts, file_from, home_at, home_own}
use Rattle.dwz_def_images.specs.After.{AreAfter, IsKeptUnit, IsNewUnit}

-- ---- partial units, and old ones

pub record PartFrom (m : Move) (s : ℕ) (parts : List PartialUnit) (v : DwUnit EntryName) : Type 0 where
  pub number : ℕ
  pub part : PartialUnit
  pub nth : Nth s parts number part
  pub is : partial_unit m number ≡ v

pub record KeptFrom (m : Move) (units : List (FileUnit EntryName)) (s : ℕ) (some : List (FileUnit EntryName)) (v : DwUnit EntryName) : Type 0 where
  pub number : ℕ
  pub unit : FileUnit EntryName
  pub nth : Nth s some number unit
  pub is : kept_unit m units number unit ≡ v

module _ (m : Move) (units : List (FileUnit EntryName)) where
  pub part_nth : (h : Home) (s : ℕ) (parts : List PartialUnit) (n : ℕ) (part : PartialUnit) → Nth s parts n part → part.home ≡ h → In (partial_unit m n) (partial_units m h s parts)
  unfolding partial_units
  part_nth h s [] n part nth e = absurd nth
  part_nth h s (p ∷ parts) n part (inl x) e =
      let here : same_home p.home h ≡ true = ap (λ (w : PartialUnit). same_home w.home h) x.1 ∙ ap (λ (w : Home). same_home w h) e ∙ home_own h in
      rw (here, partial_units) (inl (ap (λ (w : ℕ). partial_unit m w) x.0))
  part_nth h s (p ∷ parts) n part (inr r) e = go (part_nth h (suc s) parts n part r e) (same_home p.home h) where
    go : In (partial_unit m n) (partial_units m h (suc s) parts) → (b : Bool)
        → In (partial_unit m n) (elim b as (λ _. List (DwUnit EntryName)) [ true ↦ partial_unit m s ∷ partial_units m h (suc s) parts | false ↦ partial_units m h (suc s) parts ])
    go more true = inr more
    go more false = more

  pub part_from : (h : Home) (s : ℕ) (parts : List PartialUnit) (v : DwUnit EntryName) → In v (partial_units m h s parts) → PartFrom m s parts v
  unfolding partial_units
  part_from h s [] v is = absurd is
  part_from h s (p ∷ parts) v is = go (part_from h (suc s) parts v) (same_home p.home h) is where
    go : (In v (partial_units m h (suc s) parts) → PartFrom m (suc s) parts v) → (b : Bool)
        → In v (elim b as (λ _. List (DwUnit EntryName)) [ true ↦ partial_unit m s ∷ partial_units m h (suc s) parts | false ↦ partial_units m h (suc s) parts ]) → PartFrom m s (p ∷ parts) v
    go more true (inl x) = record { number = s; part = p; nth = inl (refl, refl); is = x }
    go more true (inr r) = let o = more r in record { number = o.number; part = o.part; nth = inr o.nth; is = o.is }
    go more false r = let o = more r in record { number = o.number; part = o.part; nth = inr o.nth; is = o.is }

  pub kept_nth : (file s : ℕ) (some : List (FileUnit EntryName)) (i : ℕ) (u : FileUnit EntryName) → Nth s some i u → u.file ≡ file → In (kept_unit m units i u) (kept_units m units file s some)
  unfolding kept_units
  kept_nth file s [] i u nth e = absurd nth
  kept_nth file s (f ∷ some) i u (inl x) e =
      let here : (f.file == file) ≡ true = eq-eqb f.file file (ap (λ (w : FileUnit EntryName). w.file) x.1 ∙ e) in
      rw (here, kept_units) (inl (ap (λ (w : ℕ). kept_unit m units w f) x.0 ∙ ap (λ (w : FileUnit EntryName). kept_unit m units i w) x.1))
  kept_nth file s (f ∷ some) i u (inr r) e = go (kept_nth file (suc s) some i u r e) (f.file == file) where
    go : In (kept_unit m units i u) (kept_units m units file (suc s) some) → (b : Bool)
        → In (kept_unit m units i u) (elim b as (λ _. List (DwUnit EntryName)) [ true ↦ kept_unit m units s f ∷ kept_units m units file (suc s) some | false ↦ kept_units m units file (suc s) some ])
    go more true = inr more
    go more false = more

  pub kept_from : (file s : ℕ) (some : List (FileUnit EntryName)) (v : DwUnit EntryName) → In v (kept_units m units file s some) → KeptFrom m units s some v
  unfolding kept_units
  kept_from file s [] v is = absurd is
  kept_from file s (f ∷ some) v is = go (kept_from file (suc s) some v) (f.file == file) is where
    go : (In v (kept_units m units file (suc s) some) → KeptFrom m units (suc s) some v) → (b : Bool)
        → In v (elim b as (λ _. List (DwUnit EntryName)) [ true ↦ kept_unit m units s f ∷ kept_units m units file (suc s) some | false ↦ kept_units m units file (suc s) some ])
        → KeptFrom m units s (f ∷ some) v
    go more true (inl x) = record { number = s; unit = f; nth = inl (refl, refl); is = x }
    go more true (inr r) = let o = more r in record { number = o.number; unit = o.unit; nth = inr o.nth; is = o.is }
    go more false r = let o = more r in record { number = o.number; unit = o.unit; nth = inr o.nth; is = o.is }

  pub new_unit : (v : DwUnit EntryName) → PartFrom m 0 m.parts v → IsNewUnit m v
  new_unit v o = record { number = o.number; part = o.part; nth = o.nth; is = o.is }

  pub kept_is : (v : DwUnit EntryName) → KeptFrom m units 0 units v → IsKeptUnit m units v
  kept_is v o = record { number = o.number; unit = o.unit; nth = o.nth; is = o.is }

  -- ---- of all files

  pub record FileFrom (some : List ℕ) (v : DwUnit EntryName) : Type 0 where
    pub file : ℕ
    pub there : In file some
    pub is : In v (out_units m units file)

  file_in : (some : List ℕ) (file : ℕ) → In file some → (v : DwUnit EntryName) → In v (out_units m units file) → In v (file_units m units some)
  unfolding file_units
  file_in [] file h v is = absurd h
  file_in (g ∷ some) file (inl e) v is = in_left v (out_units m units g) (file_units m units some) (subst (λ (w : ℕ). In v (out_units m units w)) (sym e) is)
  file_in (g ∷ some) file (inr r) v is = in_right v (out_units m units g) (file_units m units some) (file_in some file r v is)

  file_from_units : (some : List ℕ) (v : DwUnit EntryName) → In v (file_units m units some) → FileFrom some v
  unfolding file_units
  file_from_units [] v h = absurd h
  file_from_units (g ∷ some) v h = elim (in_cases v (out_units m units g) (file_units m units some) h) [
    | inl a ↦ record { file = g; there = inl refl; is = a }
    | inr b ↦ (let o = file_from_units some v b in record { file = o.file; there = inr o.there; is = o.is })
  ]

  new_in : (files : List ℕ) (n : ℕ) (part : PartialUnit) → Nth 0 m.parts n part → (h : Home) → part.home ≡ h → is_home h ≡ true → ((file : ℕ) → h ≡ Local file → In file files)
      → In (partial_unit m n) (all_units m units files)
  unfolding common_units out_units
  new_in files n part nth Common e moving known = in_left (partial_unit m n) (common_units m) (file_units m units files) (part_nth Common 0 m.parts n part nth e)
  new_in files n part nth (Local file) e moving known =
      in_right (partial_unit m n) (common_units m) (file_units m units files)
      (file_in files file (known file refl) (partial_unit m n)
      (in_left (partial_unit m n) (partial_units m (Local file) 0 m.parts) (kept_units m units file 0 units) (part_nth (Local file) 0 m.parts n part nth e)))
  new_in files n part nth Stay e moving known = absurd cc

  kept_in : (files : List ℕ) (i : ℕ) (u : FileUnit EntryName) → Nth 0 units i u → In u.file files → In (kept_unit m units i u) (all_units m units files)
  unfolding out_units
  kept_in files i u nth there =
      in_right (kept_unit m units i u) (common_units m) (file_units m units files)
      (file_in files u.file there (kept_unit m units i u)
      (in_right (kept_unit m units i u) (partial_units m (Local u.file) 0 m.parts) (kept_units m units u.file 0 units) (kept_nth u.file 0 units i u nth refl)))

  unit_from : (files : List ℕ) (v : DwUnit EntryName) → In v (all_units m units files) → IsNewUnit m v ⊎ IsKeptUnit m units v
  unfolding common_units out_units
  unit_from files v h = elim (in_cases v (common_units m) (file_units m units files) h) [
    | inl a ↦ inl (new_unit v (part_from Common 0 m.parts v a))
    | inr b ↦
        let o = file_from_units files v b in
        elim (in_cases v (partial_units m (Local o.file) 0 m.parts) (kept_units m units o.file 0 units) o.is) [
          | inl c ↦ inl (new_unit v (part_from (Local o.file) 0 m.parts v c))
          | inr d ↦ inr (kept_is v (kept_from o.file 0 units v d))
        ]
  ]

-- the file of a partial unit of the plan is one of them
local_file : (rule : Rule) (units : List (FileUnit EntryName)) (files : List ℕ) (part : PartialUnit) (file : ℕ) → In part (partials rule units files) → part.home ≡ Local file → In file files
unfolding partials
local_file rule units files part file is e = elim (in_cases part (partials_at rule units Common) (local_partials rule units files) is) [
  | inl a ↦ absurd (let h = home_at rule units Common part a in cc)
  | inr b ↦
      let o = file_from rule units files part b in
      let h = home_at rule units (Local o.file) part o.is in
      let same : o.file ≡ file = (let z : Local o.file ≡ Local file = sym h ∙ e in cc) in
      subst (λ (w : ℕ). In w files) same o.there
]

-- the units of the common file and of all files are all that stand after
pub all_outs : (units : List (FileUnit EntryName)) (rule : Rule) (files : List ℕ) → ((i : ℕ) (u : FileUnit EntryName) → Nth 0 units i u → In u.file files)
    → AreAfter (plan rule units files) units (all_units (plan rule units files) units files)
all_outs units rule files known = record {
  new = λ n part nth. new_in (plan rule units files) units files n part nth part.home refl
      (each_in (IsPart rule units) part (partials rule units files) (are_parts rule units files) (nth_in 0 (partials rule units files) n part nth)).moves
      (λ file e. local_file rule units files part file (nth_in 0 (partials rule units files) n part nth) e);
  kept = λ i u nth. kept_in (plan rule units files) units files i u nth (known i u nth);
  from = unit_from (plan rule units files) units files;
}

-- The imports of a unit are as they are asked for.
use Rattle.std.proofs.Common.{◌≡◌, ℕ, suc, ◌<◌, ◌≤◌, Bool, true, false, List, [], ◌∷◌, map, refl, sym, ap, subst, arith, inl, inr}
use Rattle.dwz_def_reading.specs.Documents.{Entries}
use Rattle.dwz_def_reading.specs.Lists.{In}
use Rattle.dwz_def_reading.specs.Rows.{has}
use Rattle.dwz_def_reading.specs.Trees.{End, Entry}
use Rattle.dwz_def_tops.specs.Lists.{Nth, Rising}
use Rattle.dwz_def_plan.specs.IsPlan.{AreImports, row}
use Rattle.dwz_def_plan.specs.Plan.{PartialUnit, import_of, imports}
use Rattle.dwz_def_tops.specs.Spots.{EntryName}
use Rattle.dwz_def_reading.proofs.MeaningLemmas.{has_in}
use Rattle.dwz_def_tops.proofs.Members.{each_of}
use Rattle.dwz_def_reading.proofs.HasLemmas.{in_has}

-- ---- imports

imported : ℕ → ℕ → List PartialUnit → List ℕ
imported unit s [] = []
imported unit s (part ∷ parts) = elim (has unit part.users) as (λ _. List ℕ) [ true ↦ s ∷ imported unit (suc s) parts | false ↦ imported unit (suc s) parts ]

imported_from : (unit s : ℕ) (parts : List PartialUnit) (n : ℕ) → In n (imported unit s parts) → (part : PartialUnit) × Nth s parts n part × In unit part.users
unfolding imported
imported_from unit s [] n h = absurd h
imported_from unit s (part ∷ parts) n h = go (imported_from unit (suc s) parts n) (has unit part.users) refl h where
  go : (In n (imported unit (suc s) parts) → (p : PartialUnit) × Nth (suc s) parts n p × In unit p.users) → (b : Bool) → has unit part.users ≡ b
      → In n (elim b as (λ _. List ℕ) [ true ↦ s ∷ imported unit (suc s) parts | false ↦ imported unit (suc s) parts ]) → (p : PartialUnit) × Nth s (part ∷ parts) n p × In unit p.users
  go more true q (inl e) = (part, inl (e, refl), has_in unit part.users q)
  go more true q (inr r) = let o = more r in (o.0, inr o.1, o.2)
  go more false q r = let o = more r in (o.0, inr o.1, o.2)

in_imported : (unit s : ℕ) (parts : List PartialUnit) (n : ℕ) (part : PartialUnit) → Nth s parts n part → In unit part.users → In n (imported unit s parts)
unfolding imported
in_imported unit s [] n part h is = absurd h
in_imported unit s (p ∷ parts) n part (inl e) is =
    let here : has unit p.users ≡ true = in_has unit p.users (subst (λ (w : PartialUnit). In unit w.users) (sym e.1) is) in
    rw (here, imported) (inl e.0)
in_imported unit s (p ∷ parts) n part (inr r) is = go (in_imported unit (suc s) parts n part r is) (has unit p.users) where
  go : In n (imported unit (suc s) parts) → (b : Bool) → In n (elim b as (λ _. List ℕ) [ true ↦ s ∷ imported unit (suc s) parts | false ↦ imported unit (suc s) parts ])
  go more true = inr more
  go more false = more

imported_bound : (unit s : ℕ) (parts : List PartialUnit) (n : ℕ) → In n (imported unit s parts) → s ≤ n
unfolding imported
imported_bound unit s [] n h = absurd h
imported_bound unit s (part ∷ parts) n h = go (imported_bound unit (suc s) parts n) (has unit part.users) h where
  go : (In n (imported unit (suc s) parts) → s < n) → (b : Bool) → In n (elim b as (λ _. List ℕ) [ true ↦ s ∷ imported unit (suc s) parts | false ↦ imported unit (suc s) parts ]) → s ≤ n
  go more true (inl e) = omega (arith, e)
  go more true (inr r) = omega (arith, more r)
  go more false r = omega (arith, more r)

imported_rise : (unit s : ℕ) (parts : List PartialUnit) → Rising (imported unit s parts)
unfolding imported
imported_rise unit s [] = tt
imported_rise unit s (part ∷ parts) = go (imported_rise unit (suc s) parts) (has unit part.users) where
  go : Rising (imported unit (suc s) parts) → (b : Bool) → Rising (elim b as (λ _. List ℕ) [ true ↦ s ∷ imported unit (suc s) parts | false ↦ imported unit (suc s) parts ])
  go more true = (each_of (λ n. s < n) (imported unit (suc s) parts) (λ n is. imported_bound unit (suc s) parts n is), more)
  go more false = more

imports_row : (unit s : ℕ) (parts : List PartialUnit) → imports unit s parts ≡ row (map (import_of unit) (imported unit s parts))
unfolding imported imports
imports_row unit s [] = refl
imports_row unit s (part ∷ parts) = go (imports_row unit (suc s) parts) (has unit part.users) where
  go : imports unit (suc s) parts ≡ row (map (import_of unit) (imported unit (suc s) parts)) → (b : Bool)
      → (elim b as (λ _. Entries EntryName) [ true ↦ Entry (import_of unit s) End (imports unit (suc s) parts) | false ↦ imports unit (suc s) parts ])
      ≡ row (map (import_of unit) (elim b as (λ _. List ℕ) [ true ↦ s ∷ imported unit (suc s) parts | false ↦ imported unit (suc s) parts ]))
  go more true = ap (λ (w : Entries EntryName). Entry (import_of unit s) End w) more
  go more false = more

pub are_imports : (unit : ℕ) (parts : List PartialUnit) → AreImports unit parts (imports unit 0 parts)
are_imports unit parts = record {
  parts_imported = imported unit 0 parts;
  rising = imported_rise unit 0 parts;
  are = λ n. (imported_from unit 0 parts n, λ h. in_imported unit 0 parts n h.0 h.1 h.2);
  entries_are = imports_row unit 0 parts;
}

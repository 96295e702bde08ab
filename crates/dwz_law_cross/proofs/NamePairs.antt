-- By names: a file before, and what stands after in its place.
use Rattle.std.proofs.Common.{◌≡◌, ℕ, suc, Bool, true, false, List, [], ◌∷◌, ◌++◌, ◌==◌, cond, map, refl, sym, ap, subst, ◌∙◌, inl, inr, eqb-true}
use Rattle.std.specs.List.{filter}
use Rattle.dwz_def_reading.specs.Lists.{Each, In, Nth}
use Rattle.dwz_def_reading.specs.Documents.{Compile, Doc, DwUnit, Kind, OfType, Partial, kind_map}
use Rattle.dwz_def_tops.specs.Seen.{EntriesSame, TypesSame, UnitSame, see, seen_inside, seen_map, seen_roots}
use Rattle.dwz_def_tops.specs.Alike.{IsAlike, TopScope}
use Rattle.dwz_def_tops.specs.Spots.{EntryName, FileUnit, file_numbers, rows_of_root, units_of}
use Rattle.dwz_def_tops.proofs.SeenLemmas.{inner_from}
use Rattle.dwz_def_images.specs.Homes.{Home, IsChoice, Local, Rule, same_home}
use Rattle.dwz_def_images.specs.Moves.{Move, image_in}
use Rattle.dwz_def_images.specs.Plan.{PartialUnit}
use Rattle.dwz_def_images.specs.After.{AreAfterOf, AreOld, ArePlaced, IsOfFile}
use Rattle.dwz_def_tops.specs.UnitNames.{IsNamedBelow}
use Rattle.dwz_def_images.specs.Held.{Serves}
use Rattle.dwz_def_images.specs.Units.{kept_unit, kept_units, out_units, partial_unit, partial_units, units_of_file}
use Rattle.dwz_def_images.proofs.EntryLemmas.{unit_seen}
use Rattle.dwz_def_images.proofs.ExpandLemmas.{kept_same, type_root}
use Rattle.dwz_def_images.proofs.FileLemmas.{files_are}
use Rattle.dwz_def_images.proofs.HeldLemmas.{plan_held}
use Rattle.dwz_def_images.proofs.OldFiles.{files_old}
use Rattle.dwz_def_images.proofs.ServeLemmas.{held_serves}
use Rattle.dwz_def_cross.specs.CrossSame.{EachTwo}
use Rattle.dwz_def_cross.specs.Tops.{unless_partial, whole_units}
use Rattle.dwz_law_cross.specs.PairLaws.{plan_of}

-- ---- units that aren't partial

pub whole_append : {P : Type 0} (xs ys : List (DwUnit P)) → whole_units (xs ++ ys) ≡ whole_units xs ++ whole_units ys
unfolding whole_units
whole_append [] ys = refl
whole_append {P} (x ∷ xs) ys = by x.kind (whole_append xs ys) where
  by : (k : Kind P) → whole_units (xs ++ ys) ≡ whole_units xs ++ whole_units ys → unless_partial k x (whole_units (xs ++ ys)) ≡ unless_partial k x (whole_units xs) ++ whole_units ys
  by Partial e = e
  by Compile e = ap (λ (w : List (DwUnit P)). x ∷ w) e
  by (OfType s t) e = ap (λ (w : List (DwUnit P)). x ∷ w) e

none_whole : (m : Move) (h : Home) (s : ℕ) (parts : List PartialUnit) → whole_units (partial_units m h s parts) ≡ []
unfolding whole_units partial_units
none_whole m h s [] = refl
none_whole m h s (p ∷ parts) = by (same_home p.home h) (none_whole m h (suc s) parts) where
  by : (b : Bool) → whole_units (partial_units m h (suc s) parts) ≡ []
      → whole_units (elim b as (λ _. List (DwUnit EntryName)) [ true ↦ partial_unit m s ∷ partial_units m h (suc s) parts | false ↦ partial_units m h (suc s) parts ]) ≡ []
  by true e = e
  by false e = e

-- ---- of any move whose partial units serve their users

module _ (units : List (FileUnit EntryName)) (m : Move) (old : AreOld units) (held : Serves units m) (file : ℕ) (outs : List (DwUnit EntryName)) (after : AreAfterOf (IsOfFile units file) m units outs) where
  -- a unit of the file
  abbrev Mine : ℕ → Type 0
  Mine = IsOfFile units file

  -- ---- the units of the file, with their numbers

  pub record UnitIn (s : ℕ) (some : List (FileUnit EntryName)) (u : DwUnit EntryName) : Type 0 where
    pub number : ℕ
    pub unit : FileUnit EntryName
    pub nth : Nth s some number unit
    pub of_file : unit.file ≡ file
    pub unit_is : unit.unit ≡ u

  pub unit_in : (s : ℕ) (some : List (FileUnit EntryName)) (u : DwUnit EntryName) → In u (units_of_file file some) → UnitIn s some u
  unfolding units_of_file
  unit_in s [] u h = absurd h
  unit_in s (x ∷ some) u h = by (x.file == file) refl h (unit_in (suc s) some u) where
    later : UnitIn (suc s) some u → UnitIn s (x ∷ some) u
    later o = record { number = o.number; unit = o.unit; nth = inr o.nth; of_file = o.of_file; unit_is = o.unit_is }

    by : (b : Bool) → (x.file == file) ≡ b → In u (map (λ w. w.unit) (cond b (x ∷ filter (λ w. w.file == file) some) (filter (λ w. w.file == file) some)))
        → (In u (map (λ w. w.unit) (filter (λ w. w.file == file) some)) → UnitIn (suc s) some u) → UnitIn s (x ∷ some) u
    by true e (inl y) more = record { number = s; unit = x; nth = inl (refl, refl); of_file = eqb-true x.file file e; unit_is = y }
    by true e (inr r) more = later (more r)
    by false e r more = later (more r)

  pub entries_by_name : EntriesSame (image_in m) (units_of_file file units) outs
  entries_by_name = λ e h.
      let o = inner_from (units_of_file file units) e h in
      let n = unit_in 0 units o.unit o.there in
      unit_seen units m old held outs Mine after n.number n.unit n.nth (n.unit, n.nth, n.of_file) e n.unit.unit.kind refl
      (subst (λ (w : DwUnit EntryName). In e (seen_inside w.kind w.below)) (sym n.unit_is) o.is)

  pub types_by_name : TypesSame (image_in m) (units_of_file file units) outs
  types_by_name = λ u signature main there kind.
      let n = unit_in 0 units u there in
      subst (λ (w : DwUnit EntryName). In (seen_map (image_in m) (see w.root w.below)) (seen_roots outs)) n.unit_is
      (type_root units m old held outs Mine after n.number n.unit n.nth (n.unit, n.nth, n.of_file) signature main (ap (λ (w : DwUnit EntryName). w.kind) n.unit_is ∙ kind))

  abbrev Same : DwUnit EntryName → DwUnit EntryName → Type 0
  Same = UnitSame (image_in m) outs

  kept_whole : (s : ℕ) (u : FileUnit EntryName) → Nth 0 units s u → (rest : List (DwUnit EntryName))
      → unless_partial (kept_unit m units s u).kind (kept_unit m units s u) rest ≡ kept_unit m units s u ∷ rest
  kept_whole s u nth rest = by u.unit.kind refl where
    by : (k : Kind EntryName) → u.unit.kind ≡ k → unless_partial (kind_map (image_in m) k) (kept_unit m units s u) rest ≡ kept_unit m units s u ∷ rest
    by Compile e = refl
    by (OfType a b) e = refl
    by Partial e = absurd (subst (λ (k : Kind EntryName). IsNamedBelow s k (rows_of_root units s) u.unit.below) e (old.units_named s u nth).below)

  two_from : (s : ℕ) (some : List (FileUnit EntryName)) → ((i : ℕ) (u : FileUnit EntryName) → Nth s some i u → Nth 0 units i u)
      → EachTwo Same (units_of_file file some) (whole_units (kept_units m units file s some))
  unfolding units_of_file kept_units whole_units
  two_from s [] into = tt
  two_from s (u ∷ some) into = by (u.file == file) refl (two_from (suc s) some (λ i w nth. into i w (inr nth))) where
    nth : Nth 0 units s u
    nth = into s u (inl (refl, refl))

    by : (b : Bool) → (u.file == file) ≡ b → EachTwo Same (units_of_file file some) (whole_units (kept_units m units file (suc s) some))
        → EachTwo Same (map (λ w. w.unit) (cond b (u ∷ filter (λ w. w.file == file) some) (filter (λ w. w.file == file) some)))
        (whole_units (elim b as (λ _. List (DwUnit EntryName)) [ true ↦ kept_unit m units s u ∷ kept_units m units file (suc s) some | false ↦ kept_units m units file (suc s) some ]))
    by true e more =
        subst (λ (w : List (DwUnit EntryName)). EachTwo Same (u.unit ∷ units_of_file file some) w) (sym (kept_whole s u nth (whole_units (kept_units m units file (suc s) some))))
        (kept_same units m old held outs Mine after s u nth (u, nth, eqb-true u.file file e), more)
    by false e more = more

  pub units_by_name : EachTwo Same (units_of_file file units) (whole_units (out_units m units file))
  unfolding out_units
  units_by_name =
      let parts = partial_units m (Local file) 0 m.parts in
      let kept = kept_units m units file 0 units in
      let e = whole_append parts kept ∙ ap (λ (w : List (DwUnit EntryName)). w ++ whole_units kept) (none_whole m (Local file) 0 m.parts) in
      subst (EachTwo Same (units_of_file file units)) (sym e) (two_from 0 units (λ i u nth. nth))

-- ---- of a plan

module _ (scope : TopScope) (docs : List (Doc ℕ)) (rule : Rule) (placed : Each (λ doc. ArePlaced doc.units) docs) (is : IsAlike scope (units_of docs) rule.alike)
    (choice : IsChoice (units_of docs) rule) (file : ℕ) (outs : List (DwUnit EntryName))
    (after : AreAfterOf (IsOfFile (units_of docs) file) (plan_of rule docs) (units_of docs) outs) where
  old : AreOld (units_of docs)
  old = files_old docs placed

  held : Serves (units_of docs) (plan_of rule docs)
  held = held_serves (units_of docs) (plan_of rule docs) old (plan_held scope (units_of docs) rule (file_numbers 0 docs) is choice old (files_are docs))

  pub name_entries : EntriesSame (image_in (plan_of rule docs)) (units_of_file file (units_of docs)) outs
  name_entries = entries_by_name (units_of docs) (plan_of rule docs) old held file outs after

  pub name_types : TypesSame (image_in (plan_of rule docs)) (units_of_file file (units_of docs)) outs
  name_types = types_by_name (units_of docs) (plan_of rule docs) old held file outs after

  pub name_units : EachTwo (UnitSame (image_in (plan_of rule docs)) outs) (units_of_file file (units_of docs)) (whole_units (out_units (plan_of rule docs) (units_of docs) file))
  name_units = units_by_name (units_of docs) (plan_of rule docs) old held file outs after

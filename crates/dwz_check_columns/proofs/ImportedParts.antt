-- The partial units that a unit imports, with their numbers.
use Rattle.std.proofs.Common.{◌≡◌, ℕ, List, [], ◌∷◌, map, Some, slice_get, refl, sym, ap, subst, ◌∙◌}
use Rattle.dwz_model.specs.Lists.{In}
use Rattle.dwz_model.proofs.ListFacts.{got_in, in_map}
use Rattle.dwz_model.proofs.Members.{in_map_from}
use Rattle.dwz_def_reading.specs.Documents.{DwUnit, Node}
use Rattle.dwz_def_tops.specs.Seen.{IsChild, IsImport}
use Rattle.dwz_def_cross.specs.CrossSame.{EachTwo}
use Rattle.dwz_def_cross.specs.Tops.{units_with_common}
use Rattle.dwz_def_check.specs.CrossLists.{AreImported, NumberedUnit}
use Rattle.dwz_def_check.specs.CrossNames.{IsWellRead, Side}
use Rattle.dwz_def_expand.specs.Source.{imported_in, once}
use Rattle.dwz_unit.proofs.RowsFound.{found_in_map}
use Rattle.dwz_imports.specs.Imports.{AreUnits, same}
use Rattle.dwz_imports.proofs.ImportRelations.{imported}
use Rattle.dwz_check_columns.proofs.NumberedUnits.{all_numbered, all_units, one_numbered, unit_of}
use Rattle.dwz_check_columns.proofs.TwoLists.{two_beside}

module _ (s : Side ℕ) where
  -- the unit has that number among all
  abbrev pub IsPart : ℕ → NumberedUnit ℕ → Type 0
  IsPart n y = slice_get (all_numbered s) n ≡ Some y

  -- those with these numbers, with the numbers of their tops
  abbrev pub PartsOf : List ℕ → List (DwUnit ℕ) → Type 0
  PartsOf numbers us = (parts : List (NumberedUnit ℕ)) × EachTwo IsPart numbers parts × (map unit_of parts ≡ us)

  pub parts_of : (numbers : List ℕ) (us : List (DwUnit ℕ)) → AreUnits (units_with_common s.files) numbers us → PartsOf numbers us
  parts_of [] [] h = ([], tt, refl)
  parts_of (n ∷ numbers) (u ∷ us) h =
      let y = found_in_map unit_of (all_numbered s) n u (ap (λ (w : List (DwUnit ℕ)). slice_get w n) (all_units s) ∙ h.0) in
      let rest = parts_of numbers us h.1 in
      let first = y.2 in
      let more = rest.2 in
      (y.0 ∷ rest.0, (y.1, rest.1), λ i. first i ∷ more i)
  parts_of [] (u ∷ us) h = absurd h
  parts_of (n ∷ numbers) [] h = absurd h

  module _ (read : IsWellRead s.files) (u : DwUnit ℕ) (numbers : List ℕ) (are : AreUnits (units_with_common s.files) numbers (once same (imported_in same (units_with_common s.files) u.below))) where
    abbrev us : List (DwUnit ℕ)
    us = once same (imported_in same (units_with_common s.files) u.below)

    abbrev Imports : NumberedUnit ℕ → Type 0
    Imports y = (e : Node ℕ) × IsChild e u.below × IsImport (units_with_common s.files) e y.unit

    pub are_imported : (p : PartsOf numbers us) → AreImported s u p.0
    are_imported p y = (to, from) where
      to : In y p.0 → In y (all_numbered s) × Imports y
      to is =
          let n = two_beside IsPart numbers p.0 p.1 y is in
          let there : In y.unit us = subst (λ (w : List (DwUnit ℕ)). In y.unit w) p.2 (in_map unit_of y p.0 is) in
          (got_in (all_numbered s) n.0 y n.2, (imported (units_with_common s.files) u.below numbers read.apart are y.unit).0 there)

      from : In y (all_numbered s) × Imports y → In y p.0
      from h =
          let there : In y.unit (map unit_of p.0) =
          subst (λ (w : List (DwUnit ℕ)). In y.unit w) (sym p.2) ((imported (units_with_common s.files) u.below numbers read.apart are y.unit).1 h.1) in
          let o = in_map_from unit_of y.unit p.0 there in
          let n = two_beside IsPart numbers p.0 p.1 o.source o.there in
          let one : o.source ≡ y = one_numbered s read o.source y (got_in (all_numbered s) n.0 o.source n.2) h.0 o.is in
          subst (λ (z : NumberedUnit ℕ). In z p.0) one o.there

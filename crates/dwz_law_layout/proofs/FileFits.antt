-- What is written of files is what the definition of forms says: unit by unit, file by file.
use Rattle.std.proofs.Common.{◌≡◌, ℕ, suc, ◌+◌, List, [], ◌∷◌, None, Some, length, map, refl, sym, ap, subst}
use Rattle.dwz_def_reading.specs.Documents.{DwUnit}
use Rattle.dwz_def_tops.specs.Spots.{EntryName}
use Rattle.dwz_def_tops.specs.Shown.{units_keys}
use Rattle.dwz_def_encoding.specs.Placing.{Forms, KeyedForms, fit_unit, fit_units, with_keys}
use Rattle.dwz_def_encoding.specs.Pruned.{renumbered_unit, renumbered_units}
use Rattle.dwz_layout.specs.declared.known.EntryTable.{EntryTable}
use Rattle.dwz_layout.specs.declared.order.UnitItems.{UnitItems}
use Rattle.dwz_encode.specs.Shown.{Keys, ShowFiles, ShowUnits}
use Rattle.dwz_law_layout.specs.Knows.{NewNumbers}
use Rattle.dwz_law_layout.specs.Fitted.{KnowFiles, KnowUnits, Unfitted, fitted_file, given_unit, given_units}
use Rattle.dwz_law_layout.proofs.UnitFits.{unit_fits}

module _ (keys : Keys EntryName) (k : EntryTable) where
  units_fit : (ff : KeyedForms EntryName) (rn : NewNumbers) (here : ℕ) (order : List UnitItems) (units : List (DwUnit EntryName)) → KnowUnits keys k ff rn here order units
      → ShowUnits keys k here order (map (given_unit ff rn) units)
  units_fit ff rn here [] [] known = tt
  units_fit ff rn here [] (u ∷ units) known = absurd known
  units_fit ff rn here (o ∷ order) [] known = absurd known
  units_fit ff rn here (o ∷ order) (u ∷ units) known =
      let x = known.0 in
      (unit_fits keys k x.files ff rn here o x.names u x.known x.common x.sort x.root x.order, units_fit ff rn (suc here) order units known.1)

  renumbered_all : (ff : KeyedForms EntryName) (number : ℕ → ℕ) (units : List (DwUnit EntryName)) → map (renumbered_unit number) (map (fit_unit ff) units) ≡ map (given_unit ff (Some number)) units
  renumbered_all ff number [] = refl
  renumbered_all ff number (u ∷ units) = ap (λ (w : List (DwUnit EntryName)). given_unit ff (Some number) u ∷ w) (renumbered_all ff number units)

  given_are : (forms : Forms EntryName) (rn : NewNumbers) (units : List (DwUnit EntryName)) → given_units forms rn units ≡ map (given_unit (with_keys forms (units_keys units)) rn) units
  unfolding fit_units renumbered_units
  given_are forms None units = refl
  given_are forms (Some number) units = renumbered_all (with_keys forms (units_keys units)) number units

  pub files_fit : (here : ℕ) (orders : List (List UnitItems)) (files : List Unfitted) → KnowFiles keys k here orders files → ShowFiles keys k here orders (map fitted_file files)
  files_fit here [] [] known = tt
  files_fit here [] (x ∷ files) known = absurd known
  files_fit here (order ∷ orders) [] known = absurd known
  files_fit here (order ∷ orders) (x ∷ files) known =
      let ff = with_keys x.forms (units_keys x.units) in (
        subst (λ (w : List (DwUnit EntryName)). ShowUnits keys k here order w) (sym (given_are x.forms x.texts x.units))
            (units_fit ff x.texts here order x.units known.0),
        files_fit (here + length order) orders files known.1,
      )

-- In which file a name stands.
use Rattle.std.proofs.Common.{◌≡◌, ℕ, Bool, true, false, List, [], ◌∷◌, ◌++◌, map, refl, sym, ap, subst, ◌∙◌}
use Rattle.std.proofs.Math.Logic.{inl, inr}
use Rattle.dwz_def_reading.specs.Lists.{Each, In}
use Rattle.dwz_def_tops.specs.Spots.{EntryName, same_spot}
use Rattle.dwz_def_tops.specs.Lists.{NoneTwice}
use Rattle.dwz_def_tops.specs.Shown.{units_keys}
use Rattle.dwz_def_images.specs.Units.{all_units, common_units, file_units, out_units}
use Rattle.dwz_def_tops.proofs.UnitKeys.{keys_joined}
use Rattle.dwz_def_encoding.specs.Meant.{all_entry_keys}
use Rattle.dwz_def_encoding.specs.Placing.{FileOut, file_in, files_keys, has_key}
use Rattle.dwz_def_tops.proofs.OnceLemmas.{none_both, none_left, none_right}
use Rattle.dwz_def_encoding.proofs.Chosen.{fit_units_all, fit_units_fixed, fit_units_names, none_has}
use Rattle.dwz_def_encoding.proofs.Renumbered.{renumbered_entry_keys, renumbered_fixed, renumbered_keys}
use Rattle.dwz_def_encoding.proofs.WriteLengths.{FixedUnit}
use Rattle.dwz_def_reading.specs.Pruning.{new_number}
use Rattle.dwz_def_reading.proofs.ListFacts.{in_left, in_map, in_right}
use Rattle.dwz_def_encoding.proofs.ChosenNames.{has_in}
use Rattle.dwz_def_encoding.proofs.Places.{IsSame}
use Rattle.dwz_def_encoding.proofs.SameLemmas.{spots_same}
use Rattle.dwz_def_readback.specs.Files.{CommonFile, Made, file_forms_by, file_out_by, fitted_by, fitted_if_by, formed_by, uses_by}
use Rattle.dwz_def_readback.specs.Files.{Run, common_fitted, common_forms, common_out, file_forms, file_of_name, file_out, files_out, fitted, fitted_if, formed, sources, uses}

pub in_file_keys : {K : Type 0} (files : List (FileOut K)) (f : FileOut K) (k : K) → In f files → In k (units_keys f.units) → In k (files_keys files)
unfolding files_keys
in_file_keys [] f k there is = absurd there
in_file_keys {K} (x ∷ files) f k (inl e) is = in_left k (units_keys x.units) (files_keys files) (subst (λ (y : FileOut K). In k (units_keys y.units)) (sym e) is)
in_file_keys (x ∷ files) f k (inr r) is = in_right k (units_keys x.units) (files_keys files) (in_file_keys files f k r is)

-- a name stands in the file that has it
pub file_is : {K : Type 0} (same : K → K → Bool) → IsSame same → (files : List (FileOut K)) → NoneTwice (files_keys files) → (f : FileOut K) (k : K) → In f files → In k (units_keys f.units)
    → file_in same files k ≡ f.number
unfolding files_keys file_in
file_is same is [] once f k there key = absurd there
file_is {K} same is (x ∷ files) once f k there key =
    by (λ r. file_is same is files (none_right (units_keys x.units) (files_keys files) once) f k r key) (has_key same k (units_keys x.units)) refl
  where
    by : (In f files → file_in same files k ≡ f.number) → (b : Bool) → has_key same k (units_keys x.units) ≡ b → (elim b as (λ _. ℕ) [ true ↦ x.number | false ↦ file_in same files k ]) ≡ f.number
    by rest true e = elim there [
      | inl i ↦ ap (λ (y : FileOut K). y.number) i
      | inr r ↦ absurd (none_both (units_keys x.units) (files_keys files) once k (has_in same is k (units_keys x.units) e) (in_file_keys files f k r key))
    ]
    by rest false e = elim there [
      | inl i ↦ absurd (none_has same is k (units_keys x.units) (subst (λ (y : FileOut K). In k (units_keys y.units)) (sym i) key) e)
      | inr r ↦ rest r
    ]

-- no name stands twice in one of the files
pub file_once : {K : Type 0} (files : List (FileOut K)) → NoneTwice (files_keys files) → (f : FileOut K) → In f files → NoneTwice (units_keys f.units)
unfolding files_keys
file_once [] once f there = absurd there
file_once {K} (x ∷ files) once f (inl e) = subst (λ (y : FileOut K). NoneTwice (units_keys y.units)) e (none_left (units_keys x.units) (files_keys files) once)
file_once (x ∷ files) once f (inr r) = file_once files (none_right (units_keys x.units) (files_keys files) once) f r

-- ---- the names of a run, whose common file is made or stands

module _ (cf : CommonFile) (r : Run) where
  formed_names_by : (file : ℕ) → units_keys (formed_by cf r file) ≡ units_keys (out_units r.move r.units file)
  unfolding formed_by
  formed_names_by file = fit_units_names (file_forms_by cf r file) (out_units r.move r.units file)

  pub fitted_names_by : (file : ℕ) → units_keys (fitted_by cf r file) ≡ units_keys (out_units r.move r.units file)
  unfolding fitted_by
  fitted_names_by file = by (r.input.prunes file) where
    by : (b : Bool) → units_keys (fitted_if_by b cf r file) ≡ units_keys (out_units r.move r.units file)
    by true = renumbered_keys (new_number (sources r file).strs (uses_by cf r file)) (formed_by cf r file) ∙ formed_names_by file
    by false = formed_names_by file

  -- all that is written in its units has a fixed length
  pub fitted_fixed_by : (file : ℕ) → Each FixedUnit (fitted_by cf r file)
  unfolding fitted_by formed_by
  fitted_fixed_by file = by (r.input.prunes file) where
    fixed : Each FixedUnit (formed_by cf r file)
    fixed = fit_units_fixed (file_forms_by cf r file) (out_units r.move r.units file)

    by : (b : Bool) → Each FixedUnit (fitted_if_by b cf r file)
    by true = renumbered_fixed (new_number (sources r file).strs (uses_by cf r file)) (formed_by cf r file) fixed
    by false = fixed

  pub fitted_entries_by : (file : ℕ) → all_entry_keys (fitted_by cf r file) ≡ all_entry_keys (out_units r.move r.units file)
  unfolding fitted_by formed_by
  fitted_entries_by file = by (r.input.prunes file) where
    by : (b : Bool) → all_entry_keys (fitted_if_by b cf r file) ≡ all_entry_keys (out_units r.move r.units file)
    by true = renumbered_entry_keys (new_number (sources r file).strs (uses_by cf r file)) (formed_by cf r file) ∙ fit_units_all (file_forms_by cf r file) (out_units r.move r.units file)
    by false = fit_units_all (file_forms_by cf r file) (out_units r.move r.units file)

  pub file_names_by : (files : List ℕ) → files_keys (map (file_out_by cf r) files) ≡ units_keys (file_units r.move r.units files)
  unfolding files_keys file_units units_keys
  file_names_by [] = refl
  file_names_by (f ∷ files) =
      ap (λ (w : List EntryName). w ++ files_keys (map (file_out_by cf r) files)) (fitted_names_by f)
      ∙ ap (λ (w : List EntryName). units_keys (out_units r.move r.units f) ++ w) (file_names_by files)
      ∙ sym (keys_joined (out_units r.move r.units f) (file_units r.move r.units files))

-- ---- the names of a run

module _ (r : Run) where
  pub fitted_names : (file : ℕ) → units_keys (fitted r file) ≡ units_keys (out_units r.move r.units file)
  fitted_names = fitted_names_by Made r

  pub fitted_fixed : (file : ℕ) → Each FixedUnit (fitted r file)
  fitted_fixed = fitted_fixed_by Made r

  pub fitted_entries : (file : ℕ) → all_entry_keys (fitted r file) ≡ all_entry_keys (out_units r.move r.units file)
  fitted_entries = fitted_entries_by Made r

  file_names : (files : List ℕ) → files_keys (map (file_out r) files) ≡ units_keys (file_units r.move r.units files)
  file_names = file_names_by Made r

  pub common_names : units_keys (common_fitted r) ≡ units_keys (common_units r.move)
  unfolding common_fitted
  common_names = fit_units_names (common_forms r) (common_units r.move)

  pub run_names : files_keys (files_out r) ≡ units_keys (all_units r.move r.units r.files)
  unfolding files_keys
  run_names =
      ap (λ (w : List EntryName). w ++ files_keys (map (file_out r) r.files)) common_names
      ∙ ap (λ (w : List EntryName). units_keys (common_units r.move) ++ w) (file_names r.files)
      ∙ sym (keys_joined (common_units r.move) (file_units r.move r.units r.files))

  pub run_once : NoneTwice (units_keys (all_units r.move r.units r.files)) → NoneTwice (files_keys (files_out r))
  run_once once = subst NoneTwice (sym run_names) once

  pub common_there : In (common_out r) (files_out r)
  common_there = inl refl

  pub file_there : (file : ℕ) → In file r.files → In (file_out r file) (files_out r)
  file_there file there = inr (in_map (file_out r) file r.files there)

  pub name_in_common : NoneTwice (units_keys (all_units r.move r.units r.files)) → (k : EntryName) → In k (units_keys (common_fitted r)) → file_of_name r k ≡ r.common
  name_in_common once k is = file_is same_spot spots_same (files_out r) (run_once once) (common_out r) k common_there is

  pub name_in_file : NoneTwice (units_keys (all_units r.move r.units r.files)) → (file : ℕ) → In file r.files → (k : EntryName) → In k (units_keys (fitted r file)) → file_of_name r k ≡ file
  name_in_file once file there k is = file_is same_spot spots_same (files_out r) (run_once once) (file_out r file) k (file_there file there) is

  -- no name of a file is one of the common file
  pub not_common : NoneTwice (units_keys (all_units r.move r.units r.files)) → (file : ℕ) → In file r.files → (k : EntryName) → In k (units_keys (common_fitted r))
      → In k (units_keys (fitted r file)) → ⊥
  unfolding files_keys
  not_common once file there k common own =
      none_both (units_keys (common_fitted r)) (files_keys (map (file_out r) r.files)) (run_once once) k common
      (in_file_keys (map (file_out r) r.files) (file_out r file) k (in_map (file_out r) file r.files there) own)

  pub common_entries : all_entry_keys (common_fitted r) ≡ all_entry_keys (common_units r.move)
  unfolding common_fitted
  common_entries = fit_units_all (common_forms r) (common_units r.move)

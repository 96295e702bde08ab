-- The files with the forms of their values are those of the run: by the definitions, file by file.
use Rattle.std.proofs.Common.{◌≡◌, ℕ, Bool, true, false, List, [], ◌∷◌, map, refl, ap, subst, ◌∙◌}
use Rattle.dwz_def_tops.specs.Spots.{EntryName}
use Rattle.dwz_def_reading.specs.Documents.{DwUnit}
use Rattle.dwz_def_images.specs.Units.{out_units}
use Rattle.dwz_def_encoding.specs.Placing.{FileOut}
use Rattle.dwz_def_readback.specs.Files.{common_out_by, file_forms_by, file_out_by, fitted_by, fitted_if_by, formed_by}
use Rattle.dwz_def_readback.specs.Files.{common_fitted}
use Rattle.dwz_encode.specs.Shown.{ShowFiles}
use Rattle.dwz_law_layout.specs.Fitted.{fitted_file, given_units}
use Rattle.dwz_law_layout.proofs.FileFits.{files_fit}
use Rattle.dwz_law_layout.specs.Facts.{RunFacts, common, files_written, move, run, units}
use Rattle.dwz_law_layout.specs.Named.{keys}
use Rattle.dwz_law_layout.specs.Unfitted.{before_files, before_forms, unfitted_common, unfitted_file}
use Rattle.dwz_law_layout.specs.Laid.{FilesFittedLaw, FilesShownLaw, RunFittedLaw, RunShownLaw, numbers_if, run_numbers}
use Rattle.dwz_law_layout.specs.Beside.{Alone, Beside}

module _ {beside : Beside} (f : RunFacts beside) where
  units_fitted : (n : ℕ) (b : Bool) → given_units (file_forms_by (common f) (run f) n) (numbers_if b (common f) (run f) n) (out_units (move f) (units f) n) ≡ fitted_if_by b (common f) (run f) n
  unfolding formed_by
  units_fitted n true = refl
  units_fitted n false = refl

  file_same : (n : ℕ) → fitted_file (unfitted_file f (run_numbers f) n) ≡ file_out_by (common f) (run f) n
  unfolding fitted_by
  file_same n = ap (λ (w : List (DwUnit EntryName)). record { number = n; units = w }) (units_fitted n (f.input.prunes n))

  files_same : (ns : List ℕ) → map fitted_file (map (unfitted_file f (run_numbers f)) ns) ≡ map (file_out_by (common f) (run f)) ns
  files_same [] = refl
  files_same (n ∷ ns) =
      ap (λ (x : FileOut EntryName). x ∷ map fitted_file (map (unfitted_file f (run_numbers f)) ns)) (file_same n)
      ∙ ap (λ (w : List (FileOut EntryName)). file_out_by (common f) (run f) n ∷ w) (files_same ns)

common_same : (f : RunFacts Alone) → fitted_file (unfitted_common f) ≡ common_out_by (common f) (run f)
unfolding common_fitted
common_same f = refl

pub files_fitted : FilesFittedLaw
files_fitted beside f = files_same f (files_written f)

pub run_fitted : RunFittedLaw
run_fitted f =
    ap (λ (x : FileOut EntryName). x ∷ map fitted_file (before_files f (run_numbers f))) (common_same f)
    ∙ ap (λ (w : List (FileOut EntryName)). common_out_by (common f) (run f) ∷ w) (files_same f (files_written f))

-- so what shows the files with the forms of their values shows these
pub files_shown : FilesShownLaw
files_shown beside f k here orders known =
    subst (ShowFiles (keys f) k here orders) (files_fitted _ f) (files_fit (keys f) k here orders (before_files f (run_numbers f)) known)

pub run_shown : RunShownLaw
run_shown f k orders known =
    subst (ShowFiles (keys f) k 0 orders) (run_fitted f) (files_fit (keys f) k 0 orders (before_forms f (run_numbers f)) known)

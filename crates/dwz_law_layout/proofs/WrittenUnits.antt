-- The units that are written are those of the common file and of the files that are written, file by file.
use Rattle.std.proofs.Common.{◌≡◌, ℕ, suc, Bool, true, false, List, [], ◌∷◌, ◌++◌, cond, map, refl, ap}
use Rattle.std.specs.List.{filter}
use Rattle.dwz_def_reading.specs.Documents.{Doc, DwUnit}
use Rattle.dwz_def_tops.specs.Spots.{EntryName, FileUnit, file_numbers}
use Rattle.dwz_def_images.specs.Moves.{Move}
use Rattle.dwz_def_images.specs.Units.{all_units, changes, common_units, file_units, out_units}
use Rattle.dwz_layout_numbers.specs.Owners.{file_written, files_written as written_from}
use Rattle.dwz_law_layout.specs.Beside.{Beside}
use Rattle.dwz_law_layout.specs.Facts.{RunFacts, docs, files_written, move, units, units_written}

module _ (m : Move) (us : List (FileUnit EntryName)) where
  abbrev changed : ℕ → Bool
  changed n = changes m us n

  written_are : (n : ℕ) (said : List (Doc ℕ)) → written_from m us n (map changed (file_numbers n said)) ≡ file_units m us (filter changed (file_numbers n said))
  unfolding written_from file_units file_numbers
  written_are n [] = refl
  written_are n (doc ∷ said) = by (written_are (suc n) said) (changes m us n) where
    by : written_from m us (suc n) (map changed (file_numbers (suc n) said)) ≡ file_units m us (filter changed (file_numbers (suc n) said)) → (b : Bool)
        → file_written m us n b ++ written_from m us (suc n) (map changed (file_numbers (suc n) said))
        ≡ file_units m us (cond b (n ∷ filter changed (file_numbers (suc n) said)) (filter changed (file_numbers (suc n) said)))
    by rest true = ap (λ (w : List (DwUnit EntryName)). out_units m us n ++ w) rest
    by rest false = rest

pub written_units : {beside : Beside} (f : RunFacts beside) → units_written f ≡ all_units (move f) (units f) (files_written f)
written_units f = ap (λ (w : List (DwUnit EntryName)). common_units (move f) ++ w) (written_are (move f) (units f) 0 (docs f))

-- Files have as many numbers as there are of them.
use Rattle.std.proofs.Common.{◌≡◌, ℕ, suc, List, [], ◌∷◌, length, refl, ap}
use Rattle.dwz_def_reading.specs.Documents.{Doc}
use Rattle.dwz_def_tops.specs.Spots.{file_numbers}

-- there are as many documents as contents
pub numbers_long : (n : ℕ) (docs : List (Doc ℕ)) → length (file_numbers n docs) ≡ length docs
unfolding file_numbers
numbers_long n [] = refl
numbers_long n (d ∷ docs) = ap suc (numbers_long (suc n) docs)

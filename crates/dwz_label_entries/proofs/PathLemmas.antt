-- The path of a file by its number, which is in the table: no number of a row is 2^63 or more.
use Rattle.std.proofs.Common.{◌≡◌, ℕ, ℤ, pos, negsuc, zero, suc, ◌<◌, ◌^◌, List, [], ◌∷◌, length, Some, refl, ap, ◌∙◌, arith}
use Rattle.dwz_def_reading.specs.LineTables.{FileTable, nth_path}
use Rattle.dwz_def_reading.specs.Meanings.{path_by}

path_below : (paths : List (List ℕ)) (n : ℕ) (path : List ℕ) → nth_path paths n ≡ Some path → n < length paths
unfolding nth_path
path_below [] n path e = absurd cc
path_below (p ∷ paths) zero path e = omega arith
path_below (p ∷ paths) (suc n) path e = let less = path_below paths n path e in omega arith

pub path_at : (t : FileTable) (number : ℤ) (path : List ℕ) (row : ℕ) → path_by t number ≡ Some path → length t.paths < 2 ^ 63 → ((n : ℕ) → number ≡ pos n → n < 2 ^ 63 → row ≡ n)
    → nth_path t.paths row ≡ Some path
path_at t (pos n) path row e few is = let less = path_below t.paths n path e in ap (nth_path t.paths) (is n refl (omega arith)) ∙ e
path_at t (negsuc n) path row e few is = absurd cc

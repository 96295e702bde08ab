-- A test whether bytes are the same is the test whether they are the same numbers.
use Rattle.std.proofs.Common.{◌≡◌, ℕ, true, List, subst}
use Rattle.std.specs.Str.{bytes_eq}
use Rattle.std.specs.Cmp.Lexicographic.{bytes_decides}
use Rattle.dwz_def_reading.proofs.CaseFacts.{same_test}
use Rattle.dwz_def_tops.specs.Spots.{same_numbers}
use Rattle.dwz_def_tops.proofs.SpotLemmas.{numbers_same, numbers_true}

pub same_bytes : (xs ys : List ℕ) → bytes_eq xs ys ≡ same_numbers xs ys
same_bytes xs ys =
    same_test (bytes_eq xs ys) (same_numbers xs ys)
    (λ eq. subst (λ (zs : List ℕ). same_numbers xs zs ≡ true) ((bytes_decides xs ys).0 eq) (numbers_same xs))
    (λ same. (bytes_decides xs ys).1 (numbers_true xs ys same))

-- A relation of the numbers at the same places of two lists: of lists joined, and place by place.
use Rattle.std.proofs.Common.{◌≡◌, ℕ, zero, suc, ◌<◌, List, [], ◌∷◌, ◌++◌, length, arith}
use Rattle.std.specs.List.{AllZip}
use Rattle.std.specs.Prelude.{slice_index}
use Rattle.dwz_def_reading.specs.Lists.{Each}

pub zip_join : (R : ℕ → ℕ → Type 0) (xs ys us vs : List ℕ) → AllZip R xs ys → AllZip R us vs → AllZip R (xs ++ us) (ys ++ vs)
zip_join R [] [] us vs h j = j
zip_join R (x ∷ xs) (y ∷ ys) us vs h j = (h.0, zip_join R xs ys us vs h.1 j)
zip_join R _ _ us vs h j = absurd h

pub zip_split : (R : ℕ → ℕ → Type 0) (xs ys us vs : List ℕ) → length xs ≡ length ys → AllZip R (xs ++ us) (ys ++ vs) → AllZip R xs ys × AllZip R us vs
zip_split R [] [] us vs e h = (tt, h)
zip_split R [] (y ∷ ys) us vs e h = absurd (omega arith)
zip_split R (x ∷ xs) [] us vs e h = absurd (omega arith)
zip_split R (x ∷ xs) (y ∷ ys) us vs e h = let r = zip_split R xs ys us vs (omega arith) h.1 in ((h.0, r.0), r.1)

pub zip_from : (R : ℕ → ℕ → Type 0) (xs ys : List ℕ) → length xs ≡ length ys → ((i : ℕ) → i < length xs → R (slice_index xs i) (slice_index ys i)) → AllZip R xs ys
zip_from R [] [] e h = tt
zip_from R [] (y ∷ ys) e h = absurd (omega arith)
zip_from R (x ∷ xs) [] e h = absurd (omega arith)
zip_from R (x ∷ xs) (y ∷ ys) e h = (h zero (omega arith), zip_from R xs ys (omega arith) (λ i l. h (suc i) (omega arith)))

-- another relation, where Q holds of all numbers
pub zip_more : (Q : ℕ → Type 0) (R S : ℕ → ℕ → Type 0) → ((m n : ℕ) → Q m → Q n → R m n → S m n) → (xs ys : List ℕ) → Each Q xs → Each Q ys → AllZip R xs ys → AllZip S xs ys
zip_more Q R S f [] [] u v h = tt
zip_more Q R S f (x ∷ xs) (y ∷ ys) u v h = (f x y u.0 v.0 h.0, zip_more Q R S f xs ys u.1 v.1 h.1)
zip_more Q R S f _ _ u v h = absurd h

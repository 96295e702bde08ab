-- What holds of the items of a list one by one.
use Rattle.std.proofs.Common.{ℕ, suc, ◌+◌, ◌<◌, ◌≤◌, All, List, [], ◌∷◌, length, get_or, take, sym, subst, arith}
use Rattle.std.proofs.lemmas.List.{take_all, take_more}
use Rattle.dwz_model.specs.Lists.{Each}
use Rattle.dwz_model.proofs.Members.{each_append}

pub one_more : {X : Type 0} (P : X → Type 0) (xs : List X) (i : ℕ) (d : X) → i < length xs → P (get_or xs i d) → Each P (take i xs) → Each P (take (i + 1) xs)
one_more P xs i d l is h = subst (Each P) (sym (take_more xs i d l)) (each_append P (take i xs) (get_or xs i d ∷ []) h (is, tt))

pub all_of : {X : Type 0} (P : X → Type 0) (xs : List X) (i : ℕ) → length xs ≤ i → Each P (take i xs) → Each P xs
all_of P xs i l h = subst (Each P) (take_all i xs l) h

pub each_from_all : (P : ℕ → Type 0) (xs : List ℕ) → All P xs → Each P xs
each_from_all P [] h = tt
each_from_all P (x ∷ xs) h = (h 0 0 (omega arith), each_from_all P xs (λ k d l. h (suc k) d (omega arith)))

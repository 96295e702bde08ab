-- What is left of a list from an index on.
use Rattle.std.proofs.Common.{◌≡◌, ℕ, zero, suc, ◌+◌, ◌<◌, List, [], ◌∷◌, length, drop, subst, arith}
use Rattle.dwz_def_reading.specs.Lists.{Each}

pub each_rest : (P : ℕ → Type 0) (xs : List ℕ) (k : ℕ) → k < length xs → Each P (drop k xs) → Each P (drop (k + 1) xs)
each_rest P [] k lt h = absurd (omega arith)
each_rest P (x ∷ xs) zero lt h = h.1
each_rest P (x ∷ xs) (suc k) lt h =
    let two : suc (k + 1) ≡ suc k + 1 = omega arith in
    subst (λ (n : ℕ). Each P (drop n (x ∷ xs))) two (each_rest P xs k (omega arith) h)

-- What holds of items by their numbers.
use Rattle.std.proofs.Common.{◌≡◌, ℕ, suc, ◌+◌, List, [], ◌∷◌, Some, slice_get, refl, subst, arith}
use Rattle.dwz_layout_order.specs.Spaces.{Numbered}

pub numbered_by : {X : Type 0} (P : ℕ → X → Type 0) (n : ℕ) (xs : List X) → ((k : ℕ) (x : X) → slice_get xs k ≡ Some x → P (n + k) x) → Numbered P n xs
numbered_by P n [] h = tt
numbered_by P n (x ∷ xs) h =
    let none : n + 0 ≡ n = omega arith in
    (subst (λ (w : ℕ). P w x) none (h 0 x refl), numbered_by P (suc n) xs (λ k y e. (let next : n + suc k ≡ suc n + k = omega arith in subst (λ (w : ℕ). P w y) next (h (suc k) y e))))

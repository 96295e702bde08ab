-- Numbers in ascending order, each once.
use Rattle.std.proofs.Common.{◌≡◌, ℕ, zero, suc, ◌+◌, ◌<◌, List, [], ◌∷◌, Contains, get_or, subst, inl, inr, arith}
use Rattle.std.specs.List.Sorted.{IsStrictlyIncreasing}
use Rattle.dwz_model.specs.Lists.{Each, In, Rising}
use Rattle.dwz_model.proofs.Members.{each_more}

pub in_contains : (xs : List ℕ) (x : ℕ) → In x xs → Contains xs x
in_contains [] x is = absurd is
in_contains (y ∷ xs) x (inl e) = (0, omega arith, e)
in_contains (y ∷ xs) x (inr later) = let r = in_contains xs x later in let lt = r.1 in (suc r.0, omega arith, r.2)

pub contains_in : (xs : List ℕ) (x : ℕ) → Contains xs x → In x xs
contains_in [] x c = absurd (let lt = c.1 in omega arith)
contains_in (y ∷ xs) x (zero, lt, e) = inl e
contains_in (y ∷ xs) x (suc k, lt, e) = inr (contains_in xs x (k, omega arith, e))

tail : (x : ℕ) (xs : List ℕ) → IsStrictlyIncreasing (x ∷ xs) → IsStrictlyIncreasing xs
tail x xs h k l = let one : suc k + 1 ≡ suc (k + 1) = omega arith in subst (λ (n : ℕ). get_or xs k 0 < get_or (x ∷ xs) n 0) one (h (suc k) (omega arith))

above : (x : ℕ) (xs : List ℕ) → IsStrictlyIncreasing (x ∷ xs) → Each (λ n. x < n) xs
above x [] h = tt
above x (y ∷ xs) h =
    let one : x < y = h 0 (omega arith) in
    (one, each_more (λ n. y < n) (λ n. x < n) xs (λ n l. omega arith) (above y xs (tail x (y ∷ xs) h)))

pub rising_by : (xs : List ℕ) → IsStrictlyIncreasing xs → Rising xs
rising_by [] h = tt
rising_by (x ∷ xs) h = (above x xs h, rising_by xs (tail x xs h))

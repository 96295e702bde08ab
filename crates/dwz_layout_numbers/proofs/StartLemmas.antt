-- Where the files start.
use Rattle.std.proofs.Common.{◌≡◌, ℕ, zero, suc, ◌+◌, ◌≤◌, List, [], ◌∷◌, length, Some, slice_get, arith, ◌<◌, refl, ap}
use Rattle.dwz_graph.specs.Index.{Index}
use Rattle.dwz_graph.specs.EntryCounts.{starts_from}

pub starts_low : (c : ℕ) (indexes : List Index) (j s : ℕ) → slice_get (starts_from c indexes) j ≡ Some s → c ≤ s
unfolding starts_from
starts_low c [] j s e = absurd cc
starts_low c (x ∷ indexes) zero s e = let same : c ≡ s = cc in omega arith
starts_low c (x ∷ indexes) (suc j) s e = let le = starts_low (c + length x.steps) indexes j s e in omega arith

-- an entry of a file has a number that none of another has
pub files_apart : (c : ℕ) (xs : List Index) (k m : ℕ) (x y : Index) (a b i j : ℕ) → slice_get xs k ≡ Some x → slice_get xs m ≡ Some y → slice_get (starts_from c xs) k ≡ Some a
    → slice_get (starts_from c xs) m ≡ Some b
    → i < length x.steps → j < length y.steps → a + i ≡ b + j → (k ≡ m) × (i ≡ j)
unfolding starts_from
files_apart c [] k m x y a b i j p q e f lt less same = absurd cc
files_apart c (z ∷ xs) zero zero x y a b i j p q e f lt less same = (let u : c ≡ a = cc in let v : c ≡ b = cc in (refl, omega arith))
files_apart c (z ∷ xs) zero (suc m) x y a b i j p q e f lt less same =
    let u : c ≡ a = cc in
    let is : z ≡ x = cc in
    let long = ap (λ (w : Index). length w.steps) is in
    let low = starts_low (c + length z.steps) xs m b f in
    absurd (omega arith)
files_apart c (z ∷ xs) (suc k) zero x y a b i j p q e f lt less same =
    let u : c ≡ b = cc in
    let is : z ≡ y = cc in
    let long = ap (λ (w : Index). length w.steps) is in
    let low = starts_low (c + length z.steps) xs k a e in
    absurd (omega arith)
files_apart c (z ∷ xs) (suc k) (suc m) x y a b i j p q e f lt less same = (let r = files_apart (c + length z.steps) xs k m x y a b i j p q e f lt less same in (ap suc r.0, r.1))

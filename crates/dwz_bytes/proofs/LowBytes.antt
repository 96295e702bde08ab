-- The low bytes of a number, as std and as a spelling has them.
use Rattle.std.proofs.Common.{◌≡◌, ℕ, zero, suc, ◌+◌, ◌/◌, ◌%◌, ◌^◌, ◌≤◌, ◌-◌, List, ◌∷◌, take, refl, sym, ap, ◌∙◌, arith}
use Rattle.std.specs.Int.{bytes_low_first, to_le_bytes, w64}
use Rattle.std.proofs.Math.Nat.{div-div-eq-div-mul, div-one, pow-suc}
use Rattle.dwz_bytes.specs.Spelling.{le_bytes}

pub low_first : (k i n : ℕ) → bytes_low_first i k n ≡ le_bytes k (n / 256 ^ i)
unfolding le_bytes
low_first zero i n = refl
low_first (suc k) zero n =
    let one : n / 256 ^ 0 ≡ n = div-one n in
    let rest : bytes_low_first 1 k n ≡ le_bytes k (n / 256) = low_first k 1 n in
    rw (one, rest) refl
low_first (suc k) (suc i) n =
    let rest = low_first k (suc (suc i)) n in
    let deeper : n / 256 ^ suc (suc i) ≡ n / 256 ^ suc i / 256 = ap (λ (m : ℕ). n / m) (pow-suc 256 (suc i)) ∙ sym (div-div-eq-div-mul n (256 ^ suc i) 256) in
    ap (λ (bytes : List ℕ). n / 256 ^ suc i % 256 ∷ bytes) (rest ∙ ap (le_bytes k) deeper)

pub take_le : (k m n : ℕ) → take k (le_bytes (k + m) n) ≡ le_bytes k n
unfolding le_bytes
take_le zero m n = refl
take_le (suc k) m n = let next : suc k + m ≡ suc (k + m) = omega arith in rw next (ap (λ (bytes : List ℕ). n % 256 ∷ bytes) (take_le k m (n / 256)))

pub low_bytes : (k n : ℕ) → k ≤ 8 → take k (to_le_bytes w64 n) ≡ le_bytes k n
low_bytes k n le =
    let all : to_le_bytes w64 n ≡ le_bytes 8 n = low_first 8 0 n ∙ ap (le_bytes 8) (div-one n) in
    let eight : 8 ≡ k + (8 - k) = omega arith in
    ap (take k) (all ∙ ap (λ (m : ℕ). le_bytes m n) eight) ∙ take_le k (8 - k) n

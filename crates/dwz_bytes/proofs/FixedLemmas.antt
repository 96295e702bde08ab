-- Numbers of a fixed width.
use Rattle.std.proofs.Common.{◌≡◌, ℕ, zero, suc, ◌+◌, ◌/◌, ◌^◌, ◌<◌, List, [], ◌∷◌, ◌++◌, length, get_or, take, drop, subst, ◌-◌, ◌≤◌, Ok, refl, sym, ap, ◌∙◌, arith}
use Rattle.std.specs.Int.{from_le_bytes, w64}
use Rattle.std.proofs.Math.Nat.{pow-suc}
use Rattle.dwz_bytes.specs.Spelling.{SpellsFixed, le_bytes, le_value}
use Rattle.dwz_bytes.specs.Laws.{One}
use Rattle.std.proofs.lemmas.Grind.{common_steps}
use Rattle.std.proofs.lemmas.Bool.{le-ltb}
use Rattle.std.proofs.lemmas.List.{drop-drop}
use Rattle.dwz_bytes.specs.Input.{input}
use Rattle.dwz_bytes.specs.Reading.{fixed_at}

le_len : (k n : ℕ) → length (le_bytes k n) ≡ k
unfolding le_bytes
le_len zero n = refl
le_len (suc k) n = let rest = le_len k (n / 256) in omega arith

le_written : (k n : ℕ) → n < 256 ^ k → le_value (le_bytes k n) ≡ n
unfolding le_bytes
le_written zero n lt = omega (arith, lt)
le_written (suc k) n lt =
    let less : n / 256 < 256 ^ k = omega (arith, lt, pow-suc 256 k) in
    let rest = le_written k (n / 256) less in
    omega (arith, rest)

pub fixed_written : (k n : ℕ) → n < 256 ^ k → SpellsFixed k (le_bytes k n) n
fixed_written k n lt = record { len = le_len k n; value = sym (le_written k n lt) }

pub same_front : (a b more others : List ℕ) → length a ≡ length b → a ++ more ≡ b ++ others → a ≡ b
same_front [] [] more others len e = refl
same_front [] (y ∷ b) more others len e = absurd (omega (arith, len))
same_front (x ∷ a) [] more others len e = absurd (omega (arith, len))
same_front (x ∷ a) (y ∷ b) more others len e =
    let head : x ≡ y = cc in
    let tail : a ++ more ≡ b ++ others = cc in
    let rest : a ≡ b = same_front a b more others (omega (arith, len)) tail in
    cc

pub fixed_one : (k : ℕ) → One (SpellsFixed k)
fixed_one k a b more others x y p q e =
    let same : a ≡ b = same_front a b more others (p.len ∙ sym q.len) e in
    (same, p.value ∙ ap le_value same ∙ sym q.value)

-- the first eight bytes, one by one
pub first_eight : (bytes : List ℕ) → 8 ≤ length bytes
    → from_le_bytes w64 (get_or bytes 0 0 ∷ get_or bytes 1 0 ∷ get_or bytes 2 0 ∷ get_or bytes 3 0 ∷ get_or bytes 4 0 ∷ get_or bytes 5 0 ∷ get_or bytes 6 0 ∷ get_or bytes 7 0 ∷ [])
    ≡ le_value (take 8 bytes)
first_eight (a ∷ b ∷ c ∷ d ∷ e ∷ f ∷ g ∷ h ∷ rest) le = omega arith
first_eight (a ∷ b ∷ c ∷ d ∷ e ∷ f ∷ g ∷ []) le = absurd (omega arith)
first_eight (a ∷ b ∷ c ∷ d ∷ e ∷ f ∷ []) le = absurd (omega arith)
first_eight (a ∷ b ∷ c ∷ d ∷ e ∷ []) le = absurd (omega arith)
first_eight (a ∷ b ∷ c ∷ d ∷ []) le = absurd (omega arith)
first_eight (a ∷ b ∷ c ∷ []) le = absurd (omega arith)
first_eight (a ∷ b ∷ []) le = absurd (omega arith)
first_eight (a ∷ []) le = absurd (omega arith)
first_eight [] le = absurd (omega arith)

-- eight bytes from a place on
pub eight_at : (bytes : List ℕ) (at n : ℕ) → 8 ≤ length (take (length bytes - at) (drop at bytes)) → n ≡ le_value (take 8 (take (length bytes - at) (drop at bytes)))
    → fixed_at 8 (input bytes at) ≡ Ok (n, input bytes (at + 8))
eight_at bytes at n le value =
    let whole : take (length bytes - at) (drop at bytes) ≡ drop at bytes = grind (arith, common_steps) in
    let enough : 8 ≤ length (drop at bytes) = subst (λ (w : List ℕ). 8 ≤ length w) whole le in
    let same : n ≡ le_value (take 8 (drop at bytes)) = subst (λ (w : List ℕ). n ≡ le_value (take 8 w)) whole value in
    let behind : drop 8 (drop at bytes) ≡ drop (at + 8) bytes = drop-drop 8 at bytes in
    rw (le-ltb (length (drop at bytes)) 8 enough, behind) (ap (λ (m : ℕ). Ok (m, input bytes (at + 8))) (sym same))

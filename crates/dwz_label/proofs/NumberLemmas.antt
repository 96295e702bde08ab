-- Numbers in groups of seven bits: one group, or one group and the rest. And signed numbers as sign and reach.
use Rattle.std.proofs.Common.{◌≡◌, ℕ, ℤ, Some, pos, negsuc, zero, suc, ◌+◌, ◌%◌, ◌/◌, ◌^◌, ◌<◌, ◌≤◌, [], ◌∷◌, ◌++◌, refl, ap, ◌∙◌, arith}
use Rattle.dwz_def_reading.specs.Spelling.{groups_in, padded, reach}
use Rattle.dwz_def_reading.proofs.PaddedLemmas.{count_least, count_suffices, one_more, only_one}
use Rattle.dwz_def_reading.specs.Documents.{Num}
use Rattle.dwz_label.specs.Labels.{language_label, number, plain_label}
use Rattle.dwz_label.specs.Pieces.{sign}
use Rattle.dwz_label.proofs.Codes.{enough}

pub number_last : (n : ℕ) → n < 128 → number n ≡ n ∷ []
unfolding number padded
number_last n l =
    let one = only_one n n l in
    let low : n % 128 ≡ n = omega arith in
    ap (λ (k : ℕ). padded k n) one ∙ ap (λ (m : ℕ). m ∷ []) low

padded_more : (k n : ℕ) → 0 < k → padded (suc k) n ≡ (n % 128 + 128) ∷ padded k (n / 128)
unfolding padded
padded_more zero n l = absurd (omega arith)
padded_more (suc k) n l = refl

pub number_more : (n : ℕ) → 128 ≤ n → number n ≡ (n % 128 + 128) ∷ number (n / 128)
unfolding number
number_more zero l = absurd (omega arith)
number_more (suc m) l =
    let n = suc m in
    let q = n / 128 in
    let first = one_more n n l in
    let wide = count_suffices q q (enough q) in
    let less : q ≤ m = omega arith in
    let fits : q < 128 ^ suc m = (let e = enough m in omega arith) in
    let all = count_suffices m q fits in
    let up = count_least (suc q) q (groups_in n q) all.holds all.some in
    let down = count_least n q (groups_in (suc q) q) wide.holds wide.some in
    let same : groups_in n q ≡ groups_in (suc q) q = omega arith in
    ap (λ (k : ℕ). padded k n) first ∙ padded_more (groups_in n q) n all.some ∙ ap (λ (k : ℕ). (n % 128 + 128) ∷ padded k q) same

-- the sign, the width and how far it is
pub num_label : (width : ℕ) (z : ℤ) → plain_label (Num width z) ≡ (sign z ∷ number width) ++ number (reach z)
num_label width (pos n) = refl
num_label width (negsuc n) = refl

pub some_label : (z : ℤ) → language_label (Some z) ≡ (1 + sign z) ∷ number (reach z)
some_label (pos n) = refl
some_label (negsuc n) = refl

-- Numbers of two groups.
use Rattle.std.proofs.Common.{◌≡◌, ℕ, ◌+◌, ◌%◌, ◌/◌, ◌*◌, ◌<◌, ◌≤◌, [], ◌∷◌, ap, ◌∙◌, arith}
use Rattle.dwz_label.specs.Labels.{number}
use Rattle.dwz_label.proofs.NumberLemmas.{number_last, number_more}

pub number_two : (n : ℕ) → 128 ≤ n → n < 128 * 128 → number n ≡ (n % 128 + 128) ∷ (n / 128 ∷ [])
number_two n l m =
    let low : n / 128 < 128 = omega arith in
    number_more n l ∙ ap (λ (xs : _). (n % 128 + 128) ∷ xs) (number_last (n / 128) low)

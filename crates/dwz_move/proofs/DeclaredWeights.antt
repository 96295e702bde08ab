-- What the names and forms of a declaration weigh, one by one.
use Rattle.std.proofs.Common.{◌≡◌, ℕ, ◌+◌, ◌<◌, ◌≤◌, List, [], ◌∷◌, length, drop, get_or, Option, Some, None, refl, sym, ap, ◌∙◌, arith}
use Rattle.std.proofs.lemmas.List.{drop_all}
use Rattle.std.proofs.lemmas.Option.{slice_get-get_or}
use Rattle.dwz_def_reading.proofs.ListFacts.{drop_here}
use Rattle.dwz_model.specs.declared.place.Pair.{Pair}
use Rattle.dwz_move.specs.Weights.{capped, pair_weight, pairs_weight, weigh_both}

low_both : (x y : Option ℕ) (w : ℕ) → weigh_both x y ≡ Some w → capped w ≡ w
low_both (Some a) (Some b) w e = (let is : Some (capped (a + b)) ≡ Some w = e in let same : capped (a + b) ≡ w = cc in grind arith)
low_both (Some a) None w e = absurd (let never : None ≡ Some w = e in cc)
low_both None y w e = absurd (let never : None ≡ Some w = e in cc)

pub pairs_low : (pairs : List Pair) (w : ℕ) → pairs_weight pairs ≡ Some w → capped w ≡ w
unfolding pairs_weight
pairs_low [] w e = (let is : Some 0 ≡ Some w = e in let same : 0 ≡ w = cc in grind arith)
pairs_low (p ∷ pairs) w e = low_both (pair_weight p) (pairs_weight pairs) w e

pub weights_all : (pairs : List Pair) → weigh_both (Some 0) (pairs_weight pairs) ≡ pairs_weight pairs
weights_all pairs = by (pairs_weight pairs) refl where
  by : (o : Option ℕ) → pairs_weight pairs ≡ o → weigh_both (Some 0) (pairs_weight pairs) ≡ pairs_weight pairs
  by None e = ap (weigh_both (Some 0)) e ∙ sym e
  by (Some w) e = (let none : 0 + w ≡ w = omega arith in ap (weigh_both (Some 0)) e ∙ ap (λ (n : ℕ). Some n) (ap capped none ∙ pairs_low pairs w e) ∙ sym e)

regroup : (a b : ℕ) (o : Option ℕ) → weigh_both (Some (capped (a + b))) o ≡ weigh_both (Some a) (weigh_both (Some b) o)
regroup a b None = refl
regroup a b (Some n) = (let same : capped (capped (a + b) + n) ≡ capped (a + capped (b + n)) = grind arith in ap (λ (k : ℕ). Some k) same)

module _ (pairs : List Pair) (j : ℕ) (no : Pair) (weight : ℕ) (all : Option ℕ) (left : weigh_both (Some weight) (pairs_weight (drop j pairs)) ≡ all) where
  module _ (lt : j < length pairs) where
    split : pairs_weight (drop j pairs) ≡ weigh_both (pair_weight (get_or pairs j no)) (pairs_weight (drop (j + 1) pairs))
    unfolding pairs_weight
    split = ap pairs_weight (drop_here pairs j (get_or pairs j no) (slice_get-get_or pairs j no lt))

    pub weights_more : (more new : ℕ) → pair_weight (get_or pairs j no) ≡ Some more → new ≡ capped (weight + more) → weigh_both (Some new) (pairs_weight (drop (j + 1) pairs)) ≡ all
    weights_more more new own made =
        ap (λ (n : ℕ). weigh_both (Some n) (pairs_weight (drop (j + 1) pairs))) made
        ∙ regroup weight more (pairs_weight (drop (j + 1) pairs))
        ∙ ap (λ (o : Option ℕ). weigh_both (Some weight) (weigh_both o (pairs_weight (drop (j + 1) pairs)))) (sym own)
        ∙ ap (weigh_both (Some weight)) (sym split)
        ∙ left

    pub weights_unknown : pair_weight (get_or pairs j no) ≡ None → None ≡ all
    weights_unknown own =
        ap (λ (o : Option ℕ). weigh_both (Some weight) (weigh_both o (pairs_weight (drop (j + 1) pairs)))) (sym own)
        ∙ ap (weigh_both (Some weight)) (sym split)
        ∙ left

  pub weights_end : length pairs ≤ j → weight ≤ 64 → Some weight ≡ all
  unfolding pairs_weight
  weights_end le low =
      (let same : weight ≡ capped (weight + 0) = grind arith in
      ap (λ (n : ℕ). Some n) same
      ∙ ap (λ (w : List Pair). weigh_both (Some weight) (pairs_weight w)) (sym (drop_all j pairs le))
      ∙ left)

-- A search by halves among rising numbers.
use Rattle.std.proofs.Common.{◌≡◌, ℕ, zero, suc, ◌+◌, ◌<◌, ◌≤◌, true, false, List, [], ◌∷◌, length, get_or, refl, ap, ◌∙◌, inl, inr, arith}
use Rattle.std.specs.Prelude.{◌==◌}
use Rattle.std.proofs.lemmas.Bool.{cases_Bool, cases_lt, cond-false, cond-true, eq-eqb, eqb-true}
use Rattle.dwz_def_reading.specs.Rows.{has}

-- the later is greater
abbrev pub Rise : List ℕ → Type 0
Rise ps = (i j : ℕ) → i < j → j < length ps → get_or ps i 0 < get_or ps j 0

-- from one index to below another, the number can only stand between two others
pub record Searched (ps : List ℕ) (first end place low high : ℕ) : Type 0 where
  pub from : first ≤ low
  pub to : high ≤ end
  pub below : (i : ℕ) → first ≤ i → i < low → get_or ps i 0 < place
  pub above : (i : ℕ) → high ≤ i → i < end → place < get_or ps i 0

pub search_begins : (ps : List ℕ) (first end place : ℕ) → Searched ps first end place first end
search_begins ps first end place = record { from = omega arith; to = omega arith; below = λ i l m. absurd (omega arith); above = λ i l m. absurd (omega arith) }

pub search_up : (ps : List ℕ) (first end place low high middle at : ℕ) → Rise ps → low ≤ middle → middle < high → end ≤ length ps → get_or ps middle 0 ≡ at → at < place
    → Searched ps first end place low high → Searched ps first end place (middle + 1) high
search_up ps first end place low high middle at rise l m n e less h =
    let to = h.to in
    let from = h.from in record {
      from = omega arith;
      to = h.to;
      below = λ i j k. elim (cases_lt i middle) [
        | inl lt ↦ let up = rise i middle lt (omega arith) in omega arith
        | inr ge ↦ let same : i ≡ middle = omega arith in let here = ap (λ (n : ℕ). get_or ps n 0) same in omega arith
      ];
      above = h.above;
    }

pub search_down : (ps : List ℕ) (first end place low high middle at : ℕ) → Rise ps → low ≤ middle → middle < high → end ≤ length ps → get_or ps middle 0 ≡ at → place < at
    → Searched ps first end place low high → Searched ps first end place low middle
search_down ps first end place low high middle at rise l m n e more h =
    let to = h.to in record {
      from = h.from;
      to = omega arith;
      below = h.below;
      above = λ i j k. elim (cases_lt middle i) [
        | inl lt ↦ let up = rise middle i lt (omega arith) in omega arith
        | inr ge ↦ let same : i ≡ middle = omega arith in let here = ap (λ (n : ℕ). get_or ps n 0) same in omega arith
      ];
    }

pub search_ends : (ps : List ℕ) (first end place low high : ℕ) → high ≤ low → Searched ps first end place low high → (i : ℕ) → first ≤ i → i < end → get_or ps i 0 ≡ place → ⊥
search_ends ps first end place low high stop h i l m e = elim (cases_lt i low) [
  | inl lt ↦ let less = h.below i l lt in omega arith
  | inr ge ↦ let more = h.above i (omega arith) m in omega arith
]

pub has_there : (ps : List ℕ) (k p : ℕ) → k < length ps → get_or ps k 0 ≡ p → has p ps ≡ true
unfolding has
has_there [] k p l e = absurd (omega arith)
has_there (q ∷ ps) zero p l e = cond-true (q == p) true (has p ps) (eq-eqb q p e)
has_there (q ∷ ps) (suc k) p l e = elim (cases_Bool (q == p)) [
  | inl t ↦ cond-true (q == p) true (has p ps) t
  | inr f ↦ cond-false (q == p) true (has p ps) f ∙ has_there ps k p (omega arith) e
]

pub has_none : (ps : List ℕ) (p : ℕ) → ((k : ℕ) → k < length ps → get_or ps k 0 ≡ p → ⊥) → has p ps ≡ false
unfolding has
has_none [] p h = refl
has_none (q ∷ ps) p h = elim (cases_Bool (q == p)) [
  | inl t ↦ absurd (h 0 (omega arith) (eqb-true q p t))
  | inr f ↦ cond-false (q == p) true (has p ps) f ∙ has_none ps p (λ k l e. h (suc k) (omega arith) e)
]

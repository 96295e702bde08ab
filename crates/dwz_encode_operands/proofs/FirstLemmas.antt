-- The first place is the least of those of narrow operands; that of two rows is the first of theirs.
use Rattle.std.proofs.Common.{◌≡◌, ◌↔◌, ℕ, zero, suc, ◌+◌, ◌^◌, ◌<◌, ◌≤◌, min, Bool, true, false, List, [], ◌∷◌, ◌++◌, drop, get_or, length, map, Option, Some, None, refl, sym, ap, subst, ◌∙◌, inl}
use Rattle.std.proofs.Common.{inr, arith}
use Rattle.std.specs.Prelude.{nat_le}
use Rattle.std.proofs.Math.Nat.{pow-le-pow_right}
use Rattle.std.proofs.lemmas.Bool.Decides.{leb_tells}
use Rattle.std.proofs.lemmas.Bool.{cases_lt, false≢true, le-leb, leb-true}
use Rattle.dwz_def_reading.specs.declared.exprs.Operand.{Operand}
use Rattle.dwz_def_reading.specs.Shared.{ListOperand, of_unit}
use Rattle.dwz_encode_operands.specs.First.{first_over, is_over, first_of_two, place_if}
use Rattle.dwz_encode_operands.specs.Narrow.{FirstPlace, NeedsMore}
use Rattle.dwz_def_output.specs.Refusals.{IsOver, all_of_unit}

-- ---- the first of two places

pub first_alone : (a : Option ℕ) → first_of_two a None ≡ a
first_alone None = refl
first_alone (Some at) = refl

pub first_of_three : (a b c : Option ℕ) → first_of_two (first_of_two a b) c ≡ first_of_two a (first_of_two b c)
first_of_three None b c = refl
first_of_three (Some x) None c = refl
first_of_three (Some x) (Some y) None = refl
first_of_three (Some x) (Some y) (Some z) = ap (λ (n : ℕ). Some n) (let same : min (min x y) z ≡ min x (min y z) = omega arith in same)

pub first_append : (number : ListOperand → ℕ) (xs ys : List ListOperand) → first_over number (xs ++ ys) ≡ first_of_two (first_over number xs) (first_over number ys)
unfolding first_over
first_append number [] ys = refl
first_append number (o ∷ xs) ys =
    let here = place_if (is_over o.operand.uleb o.operand.width (number o)) o.operand.at in
    ap (first_of_two here) (first_append number xs ys) ∙ sym (first_of_three here (first_over number xs) (first_over number ys))

-- ---- one operand more

-- the first place of all is the first of what was noted and of that of those that are left
abbrev pub Noted : (ListOperand → ℕ) → Option ℕ → List ListOperand → Option ℕ → List ListOperand → Type 0
Noted number old all now left = first_of_two old (first_over number all) ≡ first_of_two now (first_over number left)

pub noted_more : (number : ListOperand → ℕ) (o : ListOperand) (all left rest : List ListOperand) (old now new : Option ℕ) → left ≡ o ∷ rest
    → new ≡ first_of_two now (place_if (is_over o.operand.uleb o.operand.width (number o)) o.operand.at)
    → Noted number old all now left → Noted number old all new rest
unfolding first_over
noted_more number o all left rest old now new is made so =
    let here = place_if (is_over o.operand.uleb o.operand.width (number o)) o.operand.at in
    so ∙ ap (λ (w : List ListOperand). first_of_two now (first_over number w)) is ∙ sym (first_of_three now here (first_over number rest)) ∙ ap (λ (w : Option ℕ). first_of_two w (first_over number rest)) (sym made)

pub noted_some : (number : ListOperand → ℕ) (all left some rest : List ListOperand) (old now new : Option ℕ) → left ≡ some ++ rest → new ≡ first_of_two now (first_over number some)
    → Noted number old all now left → Noted number old all new rest
noted_some number all left some rest old now new is made so =
    so ∙ ap (λ (w : List ListOperand). first_of_two now (first_over number w)) is ∙ ap (first_of_two now) (first_append number some rest) ∙ sym (first_of_three now (first_over number some) (first_over number rest))
    ∙ ap (λ (w : Option ℕ). first_of_two w (first_over number rest)) (sym made)

pub noted_end : (number : ListOperand → ℕ) (all left : List ListOperand) (old now : Option ℕ) → left ≡ [] → Noted number old all now left → now ≡ first_of_two old (first_over number all)
unfolding first_over
noted_end number all left old now none so = sym (so ∙ ap (λ (w : List ListOperand). first_of_two now (first_over number w)) none ∙ first_alone now)

-- ---- what it is

over_is : (uleb : Bool) (width number : ℕ) → (is_over uleb width number ≡ true) ↔ IsOver uleb width number
over_is true width number = (leb-true (128 ^ width) number, le-leb (128 ^ width) number)
over_is false width number = (leb-true (256 ^ width) number, le-leb (256 ^ width) number)

module _ (number : ListOperand → ℕ) where
  abbrev over : ListOperand → Bool
  over o = is_over o.operand.uleb o.operand.width (number o)

  yes_over : (o : ListOperand) → NeedsMore number o → over o ≡ true
  yes_over o narrow = (over_is o.operand.uleb o.operand.width (number o)).1 narrow

  fits : (o p : ListOperand) → over o ≡ false → o ≡ p → NeedsMore number p → ⊥
  fits o p e same narrow = false≢true (sym e ∙ ap over same ∙ yes_over p narrow)

  first_with : (o : ListOperand) (os : List ListOperand) (b : Bool) → over o ≡ b → (r : Option ℕ) → FirstPlace number os r → FirstPlace number (o ∷ os) (first_of_two (place_if b o.operand.at) r)
  first_with o os false e None h = λ p there narrow. elim there [ inl same ↦ fits o p e same narrow | inr later ↦ h p later narrow ]
  first_with o os false e (Some at) h = record {
    operand = h.operand;
    there = inr h.there;
    narrow = h.narrow;
    least = λ p there narrow. elim there [ inl same ↦ absurd (fits o p e same narrow) | inr later ↦ h.least p later narrow ];
    stands = h.stands;
  }
  first_with o os true e None h = record {
    operand = o;
    there = inl refl;
    narrow = (over_is o.operand.uleb o.operand.width (number o)).0 e;
    least = λ p there narrow. elim there [ inl same ↦ subst (λ (x : ListOperand). o.operand.at ≤ x.operand.at) same (omega arith) | inr later ↦ absurd (h p later narrow) ];
    stands = refl;
  }
  first_with o os true e (Some at) h = elim (cases_lt o.operand.at at) [
    | inl less ↦ record {
      operand = o;
      there = inl refl;
      narrow = (over_is o.operand.uleb o.operand.width (number o)).0 e;
      least = λ p there narrow. elim there [
        | inl same ↦ subst (λ (x : ListOperand). o.operand.at ≤ x.operand.at) same (omega arith)
        | inr later ↦ (let le = h.least p later narrow in let stands = h.stands in omega (arith, less, le, stands))
      ];
      stands = omega (arith, less);
    }
    | inr more ↦ record {
      operand = h.operand;
      there = inr h.there;
      narrow = h.narrow;
      least = λ p there narrow. elim there [
        | inl same ↦ subst (λ (x : ListOperand). h.operand.operand.at ≤ x.operand.at) same (let stands = h.stands in omega (arith, more, stands))
        | inr later ↦ h.least p later narrow
      ];
      stands = (let stands = h.stands in omega (arith, more, stands));
    }
  ]

  pub first_is : (os : List ListOperand) → FirstPlace number os (first_over number os)
  unfolding first_over
  first_is [] = λ p there narrow. there
  first_is (o ∷ os) = first_with o os (over o) refl (first_over number os) (first_is os)

  pub first_so : (os : List ListOperand) (result : Option ℕ) → result ≡ first_over number os → FirstPlace number os result
  first_so os result e = subst (FirstPlace number os) (sym e) (first_is os)

-- ---- rows

pub left_at : {X Y : Type 0} (f : X → Y) (xs : List X) (k : ℕ) (d : X) → k < length xs → map f (drop k xs) ≡ f (get_or xs k d) ∷ map f (drop (k + 1) xs)
left_at f [] k d lt = absurd (omega (arith, lt))
left_at f (x ∷ xs) zero d lt = refl
left_at f (x ∷ xs) (suc k) d lt = (let one : suc (k + 1) ≡ suc k + 1 = omega arith in left_at f xs k d (omega (arith, lt)) ∙ ap (λ (n : ℕ). f (get_or xs k d) ∷ map f (drop n (x ∷ xs))) one)

pub left_end : {X Y : Type 0} (f : X → Y) (xs : List X) (k : ℕ) → length xs ≤ k → map f (drop k xs) ≡ []
left_end f [] zero le = refl
left_end f [] (suc k) le = refl
left_end f (x ∷ xs) zero le = absurd (omega (arith, le))
left_end f (x ∷ xs) (suc k) le = left_end f xs k (omega (arith, le))

-- the item that stands beside another
pub beside : {X : Type 0} (f : X → ℕ) (xs : List X) (more : List ℕ) (k : ℕ) (d : X) → k < length xs → get_or (map f xs ++ more) k 0 ≡ f (get_or xs k d)
beside f [] more k d lt = absurd (omega (arith, lt))
beside f (x ∷ xs) more zero d lt = refl
beside f (x ∷ xs) more (suc k) d lt = beside f xs more k d (omega (arith, lt))

pub units_all : (unit : ℕ) (os : List Operand) → all_of_unit unit os ≡ map (of_unit unit) os
units_all unit [] = refl
units_all unit (o ∷ os) = ap (λ (w : List ListOperand). of_unit unit o ∷ w) (units_all unit os)

pub units_append : (unit : ℕ) (xs ys : List Operand) → all_of_unit unit (xs ++ ys) ≡ all_of_unit unit xs ++ all_of_unit unit ys
units_append unit [] ys = refl
units_append unit (o ∷ xs) ys = ap (λ (w : List ListOperand). of_unit unit o ∷ w) (units_append unit xs ys)

-- ---- powers

pub less_none : (power number : ℕ) → number < power → false ≡ nat_le power number
less_none power number less = grind (arith, leb_tells)

pub power_over : (radix k count number : ℕ) → 0 < radix → k ≤ count → number < radix ^ k → false ≡ nat_le (radix ^ count) number
power_over radix k count number some le less = (let more : radix ^ k ≤ radix ^ count = pow-le-pow_right some le in less_none (radix ^ count) number (omega (arith, less, more)))

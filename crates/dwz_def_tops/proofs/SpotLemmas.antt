-- The tests of equal numbers, lists of numbers and names are true exactly where these are equal.
use Rattle.std.proofs.Common.{◌≡◌, ℕ, Bool, true, false, List, refl, ap, ◌∙◌, eqb, eqb-true, eq-eqb}
use Rattle.std.proofs.lemmas.Bool.{and_parts}
use Rattle.dwz_def_tops.specs.Spots.{EntryName, Import, InChain, InType, PartialOf, PartialRoot, RootOf, SpaceAt, UnitOf, Within, same_numbers, same_spot}
use Rattle.dwz_def_tops.proofs.AlikeTests.{numbers_decide}

-- one test and then another
abbrev pub then_test : Bool → Bool → Bool
then_test a b = elim a as (λ _. Bool) [ true ↦ b | false ↦ false ]

pub both : (a b : Bool) → then_test a b ≡ true → (a ≡ true) × (b ≡ true)
both true b e = (refl, e)
both false b e = absurd cc

pub all_true : (a b : Bool) → a ≡ true → b ≡ true → then_test a b ≡ true
all_true a b p q = ap (λ (t : Bool). then_test t b) p ∙ q

pub eqb_same : (n : ℕ) → eqb n n ≡ true
eqb_same n = eq-eqb n n refl

pub numbers_true : (xs ys : List ℕ) → same_numbers xs ys ≡ true → xs ≡ ys
numbers_true xs ys e = (numbers_decide xs ys).0 e

pub numbers_same : (xs : List ℕ) → same_numbers xs xs ≡ true
numbers_same xs = (numbers_decide xs xs).1 refl

-- ---- names

pub same_spot-true : (x y : EntryName) → same_spot x y ≡ true → x ≡ y
unfolding same_spot
same_spot-true (Within s p) (Within t q) e = (let x = both (eqb s t) _ e in ap (λ (n : ℕ). Within n p) (eqb-true s t x.0) ∙ ap (λ (r : List ℕ). Within t r) (numbers_true p q x.1))
same_spot-true (UnitOf a) (UnitOf b) e = ap UnitOf (eqb-true a b e)
same_spot-true (RootOf a) (RootOf b) e = ap RootOf (eqb-true a b e)
same_spot-true (SpaceAt a p) (SpaceAt b q) e = (let x = both (eqb a b) _ e in ap (λ (n : ℕ). SpaceAt n p) (eqb-true a b x.0) ∙ ap (λ (r : List ℕ). SpaceAt b r) (numbers_true p q x.1))
same_spot-true (InType a p) (InType b q) e = (let x = both (eqb a b) _ e in ap (λ (n : ℕ). InType n p) (eqb-true a b x.0) ∙ ap (λ (r : List ℕ). InType b r) (numbers_true p q x.1))
same_spot-true (PartialOf a) (PartialOf b) e = ap PartialOf (eqb-true a b e)
same_spot-true (PartialRoot a) (PartialRoot b) e = ap PartialRoot (eqb-true a b e)
same_spot-true (InChain a i d) (InChain b j k) e = (let x = and_parts (eqb a b) _ e in let y = and_parts (eqb i j) (eqb d k) x.1 in ap (λ (n : ℕ). InChain n i d) (eqb-true a b x.0)
    ∙ ap (λ (n : ℕ). InChain b n d) (eqb-true i j y.0) ∙ ap (λ (n : ℕ). InChain b j n) (eqb-true d k y.1))
same_spot-true (Import i a) (Import j b) e = (let x = and_parts (eqb i j) (eqb a b) e in ap (λ (n : ℕ). Import n a) (eqb-true i j x.0) ∙ ap (λ (n : ℕ). Import j n) (eqb-true a b x.1))
same_spot-true _ _ e = absurd cc

pub same_spot-same : (x : EntryName) → same_spot x x ≡ true
unfolding same_spot
same_spot-same (Within s p) = all_true _ _ (eqb_same s) (numbers_same p)
same_spot-same (UnitOf a) = eqb_same a
same_spot-same (RootOf a) = eqb_same a
same_spot-same (SpaceAt a p) = all_true _ _ (eqb_same a) (numbers_same p)
same_spot-same (InType a p) = all_true _ _ (eqb_same a) (numbers_same p)
same_spot-same (PartialOf a) = eqb_same a
same_spot-same (PartialRoot a) = eqb_same a
same_spot-same (InChain a i d) = rw (eqb_same a, eqb_same i, eqb_same d) refl
same_spot-same (Import i a) = rw (eqb_same i, eqb_same a) refl

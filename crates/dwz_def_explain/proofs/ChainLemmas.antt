-- A chain of k references makes the look of depth k + 1 fail; and where no chain is shorter than k, the look of depth k holds.
use Rattle.std.proofs.Common.{◌≡◌, ℕ, zero, suc, ◌<◌, List, [], ◌∷◌, length, Some, inl, inr, refl, sym, ap, subst, ◌∙◌, arith, slice_get}
use Rattle.std.specs.Prelude.{◌⊎◌}
use Rattle.std.proofs.lemmas.Bool.{cases_order}
use Rattle.std.specs.List.{AllZip}
use Rattle.dwz_model.specs.Lists.{In}
use Rattle.dwz_def_tops.specs.Alike.{Alike, Look, Movable, SameTop}
use Rattle.dwz_def_tops.specs.Spots.{EntryName, FileUnit, Top, tops_of}
use Rattle.dwz_def_tops.specs.Targets.{targets_of}
use Rattle.dwz_def_tops.proofs.AlikeLooks.{look_out}
use Rattle.dwz_def_tops.proofs.TopNumbers.{Numbered, tops_numbers}
use Rattle.dwz_label.proofs.Bare.{bare_of, top_whole, top_zip}
use Rattle.dwz_def_explain.specs.Chain.{DifferThemselves, IsLeastChain, IsLowerChain, TellsApart, Whichever, look_depth}
use Rattle.dwz_def_explain.specs.ChainLaws.{IsLeastDepth}
use Rattle.dwz_def_explain.proofs.FoundLemmas.{found}
use Rattle.dwz_def_explain.proofs.WhatLemmas.{what_tells}

-- ---- place by place

zip_get : (R : ℕ → ℕ → Type 0) (xs ys : List ℕ) (i x y : ℕ) → AllZip R xs ys → slice_get xs i ≡ Some x → slice_get ys i ≡ Some y → R x y
zip_get R [] [] i x y h a b = absurd cc
zip_get R (u ∷ xs) (v ∷ ys) zero x y h a b =
    let p : u ≡ x = cc in
    let q : v ≡ y = cc in
    subst (λ (w : ℕ). R w y) p (subst (λ (w : ℕ). R u w) q h.0)
zip_get R (u ∷ xs) (v ∷ ys) (suc i) x y h a b = zip_get R xs ys i x y h.1 a b
zip_get R [] (v ∷ ys) i x y h a b = absurd h
zip_get R (u ∷ xs) [] i x y h a b = absurd h

zip_all : (R S : ℕ → ℕ → Type 0) (xs ys : List ℕ) → AllZip S xs ys → ((i x y : ℕ) → slice_get xs i ≡ Some x → slice_get ys i ≡ Some y → R x y) → AllZip R xs ys
zip_all R S [] [] h f = tt
zip_all R S (u ∷ xs) (v ∷ ys) h f = (f zero u v refl refl, zip_all R S xs ys h.1 (λ i x y a b. f (suc i) x y a b))
zip_all R S [] (v ∷ ys) h f = absurd h
zip_all R S (u ∷ xs) [] h f = absurd h

-- ---- two tops are the same by themselves or not

pub same_or_not : (a b : Top) → SameTop Whichever a b ⊎ DifferThemselves a b
same_or_not a b = elim (found a b) [
  | inl same ↦ inl same
  | inr differ ↦ inr (what_tells a b differ.0 differ.1)
]

-- ---- chains and looks

module _ (tops : List Top) where
  pub chain_fails : (chain : List ℕ) (a b : Top) → In a tops → In b tops → TellsApart tops chain a b → Look tops (look_depth chain) a.number b.number → ⊥
  unfolding Look
  chain_fails [] a b i j c look = c (bare_of (Look tops zero) a b (look a b i j refl refl))
  chain_fails (l ∷ chain) a b i j c look =
      let same = look a b i j refl refl in
      let next = zip_get (Look tops (look_depth chain)) (targets_of a) (targets_of b) l c.first.number c.second.number (top_zip (Look tops (look_depth chain)) a b same) c.first_goes c.second_goes in
      chain_fails chain c.first c.second c.first_there c.second_there c.holds next

  -- a chain for the targets of the references with a number gives one for the two tops
  with_reference : (l x y : ℕ) (a b c d : Top) (chain : List ℕ) → slice_get (targets_of a) l ≡ Some x → slice_get (targets_of b) l ≡ Some y → In c tops → In d tops → c.number ≡ x → d.number ≡ y
      → TellsApart tops chain c d → TellsApart tops (l ∷ chain) a b
  with_reference l x y a b c d chain s t i j p q z = record {
    first = c;
    second = d;
    first_there = i;
    second_there = j;
    first_goes = s ∙ ap (λ (w : ℕ). Some w) (sym p);
    second_goes = t ∙ ap (λ (w : ℕ). Some w) (sym q);
    holds = z;
  }

  -- where no chain of at most k references tells them apart, they are the same along the looks of depth k
  no_chain_same : (k : ℕ) (a b : Top) → ((chain : List ℕ) → length chain < suc k → TellsApart tops chain a b → ⊥) → SameTop (Look tops k) a b
  unfolding Look
  no_chain_same zero a b none = elim (same_or_not a b) [
    | inr apart ↦ absurd (none [] (omega arith) apart)
    | inl bare ↦ top_whole (Look tops zero) a b bare (zip_all (Look tops zero) Whichever (targets_of a) (targets_of b) (top_zip Whichever a b bare) (λ l x y s t. tt))
  ]
  no_chain_same (suc k) a b none = elim (same_or_not a b) [
    | inr apart ↦ absurd (none [] (omega arith) apart)
    | inl bare ↦
        top_whole (Look tops (suc k)) a b bare
        (zip_all (Look tops (suc k)) Whichever (targets_of a) (targets_of b) (top_zip Whichever a b bare)
        (λ l x y s t c d i j p q. no_chain_same k c d (λ chain less z. none (l ∷ chain) (omega (arith, less)) (with_reference l x y a b c d chain s t i j p q z))))
  ]

  pub no_chain_looks : Numbered 0 tops → (k : ℕ) (a b : Top) → In a tops → In b tops → ((chain : List ℕ) → length chain < k → TellsApart tops chain a b → ⊥) → Look tops k a.number b.number
  unfolding Look
  no_chain_looks numbered zero a b i j none = tt
  no_chain_looks numbered (suc k) a b i j none = look_out tops numbered k a b i j (no_chain_same k a b none)

pub least_depth : (units : List (FileUnit EntryName)) (a b : Top) → In a (tops_of units) → In b (tops_of units) → (chain : List ℕ) → IsLeastChain (tops_of units) a b chain
    → IsLeastDepth units a.number b.number (look_depth chain)
least_depth units a b i j chain l = record {
  fails = chain_fails (tops_of units) chain a b i j l.tells;
  holds = λ k less. no_chain_looks (tops_of units) (tops_numbers units) k a b i j (λ other short c. l.least other c (inl (omega (arith, less, short))));
}

pub chain_alike : (units : List (FileUnit EntryName)) (a b : Top) → In a (tops_of units) → In b (tops_of units) → Movable units a.number → Movable units b.number
    → (Alike units a.number b.number → (chain : List ℕ) → TellsApart (tops_of units) chain a b → ⊥) × (((chain : List ℕ) → TellsApart (tops_of units) chain a b → ⊥) → Alike units a.number b.number)
chain_alike units a b i j p q = (
  λ same chain c. chain_fails (tops_of units) chain a b i j c (same.equal (look_depth chain)),
  λ none. record { first = p; second = q; equal = λ k. no_chain_looks (tops_of units) (tops_numbers units) k a b i j (λ chain less c. none chain c) },
)

-- ---- one least chain

order : (xs ys : List ℕ) → length xs ≡ length ys → (xs ≡ ys) ⊎ (IsLowerChain xs ys ⊎ IsLowerChain ys xs)
order [] [] e = inl refl
order [] (y ∷ ys) e = absurd (omega arith)
order (x ∷ xs) [] e = absurd (omega arith)
order (x ∷ xs) (y ∷ ys) e = go (cases_order x y) (order xs ys (omega arith)) where
  go : (x ≡ y) ⊎ ((x < y) ⊎ (y < x)) → (xs ≡ ys) ⊎ (IsLowerChain xs ys ⊎ IsLowerChain ys xs) → ((x ∷ xs) ≡ (y ∷ ys)) ⊎ (IsLowerChain (x ∷ xs) (y ∷ ys) ⊎ IsLowerChain (y ∷ ys) (x ∷ xs))
  go (inr (inl less)) o = inr (inl (inl less))
  go (inr (inr less)) o = inr (inr (inl less))
  go (inl same) (inl rest) = inl cc
  go (inl same) (inr (inl less)) = inr (inl (inr (same, less)))
  go (inl same) (inr (inr less)) = inr (inr (inr (sym same, less)))

pub one_chain : (tops : List Top) (a b : Top) (chain other : List ℕ) → IsLeastChain tops a b chain → IsLeastChain tops a b other → chain ≡ other
one_chain tops a b chain other x y = lengths (cases_order (length chain) (length other)) where
  same : length chain ≡ length other → (chain ≡ other) ⊎ (IsLowerChain chain other ⊎ IsLowerChain other chain) → chain ≡ other
  same e (inl is) = is
  same e (inr (inl less)) = absurd (y.least chain x.tells (inr (e, less)))
  same e (inr (inr less)) = absurd (x.least other y.tells (inr (sym e, less)))

  lengths : (length chain ≡ length other) ⊎ ((length chain < length other) ⊎ (length other < length chain)) → chain ≡ other
  lengths (inl e) = same e (order chain other e)
  lengths (inr (inl short)) = absurd (y.least chain x.tells (inl short))
  lengths (inr (inr short)) = absurd (x.least other y.tells (inl short))

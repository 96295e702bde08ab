-- There is a least chain for two tops, or none of so few references tells them apart. Of each length the lowest chain is looked for by the
-- number of its first reference, with the lowest that is shorter by one for the two tops that this reference goes into.
use Rattle.std.proofs.Common.{◌≡◌, ℕ, zero, suc, ◌<◌, List, [], ◌∷◌, length, inl, inr, refl, subst, ◌∙◌, arith}
use Rattle.std.specs.Prelude.{◌⊎◌}
use Rattle.std.proofs.lemmas.Bool.{cases_lt}
use Rattle.dwz_model.specs.Lists.{In}
use Rattle.dwz_model.proofs.ListFacts.{got_below}
use Rattle.dwz_def_tops.specs.Alike.{SameTop}
use Rattle.dwz_def_tops.specs.Spots.{Top}
use Rattle.dwz_def_tops.specs.Targets.{targets_of}
use Rattle.dwz_def_tops.proofs.TopNumbers.{Numbered}
use Rattle.dwz_def_explain.specs.Chain.{DifferThemselves, GoesInto, IsEarlierChain, IsLeastChain, IsLowerChain, TellsApart, Whichever}
use Rattle.dwz_def_explain.proofs.ChainLemmas.{same_or_not}
use Rattle.dwz_def_explain.proofs.LeadLemmas.{Goes, GoesNowhere, goes_or_not, lead_on}

-- ---- the least number

-- P holds of the numbers below m
abbrev AllBelow : (ℕ → Type 0) → ℕ → Type 0
AllBelow P m = (i : ℕ) → i < m → P i

-- the first number of which Q holds, where P holds of those below
abbrev First : (P Q : ℕ → Type 0) → Type 0
First P Q = (i : ℕ) × Q i × AllBelow P i

all_or_first : (P Q : ℕ → Type 0) → ((i : ℕ) → P i ⊎ Q i) → (m : ℕ) → AllBelow P m ⊎ First P Q
all_or_first P Q either zero = inl (λ i less. absurd (omega (arith, less)))
all_or_first P Q either (suc m) = next (all_or_first P Q either m) (either m) where
  next : AllBelow P m ⊎ First P Q → P m ⊎ Q m → AllBelow P (suc m) ⊎ First P Q
  next (inr there) here = inr there
  next (inl below) (inr here) = inr (m, here, below)
  next (inl below) (inl here) =
      inl (λ i less. elim (cases_lt i m) [
        | inl before ↦ below i before
        | inr after ↦ (let same : m ≡ i = omega (arith, less, after) in subst P same here)
      ])

-- ---- chains of one length

-- no chain of k references tells them apart
abbrev NoneLong : List Top → ℕ → Top → Top → Type 0
NoneLong tops k a b = (chain : List ℕ) → length chain ≡ k → TellsApart tops chain a b → ⊥

-- the lowest chain of k references that does
record LowestLong (tops : List Top) (k : ℕ) (a b : Top) : Type 0 where
  chain : List ℕ
  long : length chain ≡ k
  tells : TellsApart tops chain a b
  lowest : (other : List ℕ) → length other ≡ k → TellsApart tops other a b → IsLowerChain other chain → ⊥

-- none that begins with the reference of number i, and has k behind it
abbrev NoneFrom : List Top → ℕ → Top → Top → ℕ → Type 0
NoneFrom tops k a b i = (chain : List ℕ) → length chain ≡ k → TellsApart tops (i ∷ chain) a b → ⊥

-- what stands behind that reference in the lowest that does
record LowestFrom (tops : List Top) (k : ℕ) (a b : Top) (i : ℕ) : Type 0 where
  chain : List ℕ
  long : length chain ≡ k
  tells : TellsApart tops (i ∷ chain) a b
  lowest : (other : List ℕ) → length other ≡ k → TellsApart tops (i ∷ other) a b → IsLowerChain other chain → ⊥

none_lower : (other : List ℕ) → IsLowerChain other [] → ⊥
none_lower [] h = h
none_lower (j ∷ other) h = h

-- the lowest for two tops, by that from each reference
by_firsts : (tops : List Top) (k : ℕ) (a b : Top)
    → AllBelow (NoneFrom tops k a b) (length (targets_of a)) ⊎ First (NoneFrom tops k a b) (LowestFrom tops k a b)
    → NoneLong tops (suc k) a b ⊎ LowestLong tops (suc k) a b
by_firsts tops k a b (inl none) = inl no_chain where
  no_chain : NoneLong tops (suc k) a b
  no_chain [] e t = absurd (omega (arith, e))
  no_chain (i ∷ chain) e t = none i (got_below (targets_of a) i t.first.number t.first_goes) chain (omega (arith, e)) t
by_firsts tops k a b (inr (i, low, before)) =
    inr (record { chain = i ∷ low.chain; long = (let e = low.long in omega (arith, e)); tells = low.tells; lowest = no_lower }) where
      no_lower : (other : List ℕ) → length other ≡ suc k → TellsApart tops other a b → IsLowerChain other (i ∷ low.chain) → ⊥
      no_lower [] e t l = l
      no_lower (j ∷ other) e t (inl less) = before j less other (omega (arith, e)) t
      no_lower (j ∷ other) e t (inr l) =
          low.lowest other (omega (arith, e)) (subst (λ (w : ℕ). TellsApart tops (w ∷ other) a b) l.0 t) l.1

-- no chain of fewer than m references tells them apart
abbrev pub NoneShorter : List Top → ℕ → Top → Top → Type 0
NoneShorter tops m a b = (chain : List ℕ) → length chain < m → TellsApart tops chain a b → ⊥

module _ (tops : List Top) (numbered : Numbered 0 tops) where
  -- the lowest behind a reference is that for the two tops that it goes into
  behind : (k i : ℕ) (a b c d : Top) → In c tops → In d tops → GoesInto i a c → GoesInto i b d → NoneLong tops k c d ⊎ LowestLong tops k c d
      → NoneFrom tops k a b i ⊎ LowestFrom tops k a b i
  behind k i a b c d p q f g (inl none) =
      inl (λ chain e t. none chain e (lead_on tops numbered DifferThemselves i chain a b c d p q f g t))
  behind k i a b c d p q f g (inr low) = inr (record {
    chain = low.chain;
    long = low.long;
    tells = record { first = c; second = d; first_there = p; second_there = q; first_goes = f; second_goes = g; holds = low.tells };
    lowest = λ other e t l. low.lowest other e (lead_on tops numbered DifferThemselves i other a b c d p q f g t) l;
  })

  from_reference : (k : ℕ) (a b : Top) → ((c d : Top) → NoneLong tops k c d ⊎ LowestLong tops k c d) → (i : ℕ)
      → NoneFrom tops k a b i ⊎ LowestFrom tops k a b i
  from_reference k a b shorter i = by (goes_or_not tops numbered i a) (goes_or_not tops numbered i b) where
    by : Goes tops i a ⊎ GoesNowhere tops i a → Goes tops i b ⊎ GoesNowhere tops i b → NoneFrom tops k a b i ⊎ LowestFrom tops k a b i
    by (inl c) (inl d) = behind k i a b c.0 d.0 c.1 d.1 c.2 d.2 (shorter c.0 d.0)
    by (inr none) d = inl (λ chain e t. none t.first t.first_there t.first_goes)
    by (inl c) (inr none) = inl (λ chain e t. none t.second t.second_there t.second_goes)

  lowest_long : (k : ℕ) (a b : Top) → NoneLong tops k a b ⊎ LowestLong tops k a b
  lowest_long zero a b = by (same_or_not a b) where
    by : SameTop Whichever a b ⊎ DifferThemselves a b → NoneLong tops zero a b ⊎ LowestLong tops zero a b
    by (inr apart) = inr (record { chain = []; long = refl; tells = apart; lowest = λ other e t l. none_lower other l })
    by (inl same) = inl no_chain where
      no_chain : NoneLong tops zero a b
      no_chain [] e t = t same
      no_chain (i ∷ chain) e t = absurd (omega (arith, e))
  lowest_long (suc k) a b =
      let from = from_reference k a b (λ c d. lowest_long k c d) in
      by_firsts tops k a b (all_or_first (NoneFrom tops k a b) (LowestFrom tops k a b) from (length (targets_of a)))

  -- no chain of fewer than m references tells them apart, or there is a least one
  pub least_or_none : (m : ℕ) (a b : Top) → NoneShorter tops m a b ⊎ ((chain : List ℕ) × IsLeastChain tops a b chain)
  least_or_none m a b = by (all_or_first (λ k. NoneLong tops k a b) (λ k. LowestLong tops k a b) (λ k. lowest_long k a b) m) where
    by : AllBelow (λ k. NoneLong tops k a b) m ⊎ First (λ k. NoneLong tops k a b) (λ k. LowestLong tops k a b)
        → NoneShorter tops m a b ⊎ ((chain : List ℕ) × IsLeastChain tops a b chain)
    by (inl none) = inl (λ chain short t. none (length chain) short chain refl t)
    by (inr (k, low, shorter)) = inr (low.chain, record { tells = low.tells; least = no_earlier }) where
      no_earlier : (other : List ℕ) → TellsApart tops other a b → IsEarlierChain other low.chain → ⊥
      no_earlier other t (inl short) = (let e = low.long in shorter (length other) (omega (arith, short, e)) other refl t)
      no_earlier other t (inr l) = low.lowest other (l.0 ∙ low.long) t l.1

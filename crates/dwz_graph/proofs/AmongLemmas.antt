-- Lists with tops and spaces: with a top first, and with a space first; how many there are.
use Rattle.std.proofs.Common.{◌≡◌, ℕ, suc, ◌+◌, Bool, true, false, List, ◌∷◌, ◌++◌, length, refl, ap, ◌∙◌}
use Rattle.std.proofs.lemmas.List.{length-append}
use Rattle.dwz_def_reading.specs.Trees.{End, Entry, Forest, size}
use Rattle.dwz_graph.specs.declared.index.SpaceEntry.{SpaceEntry}
use Rattle.dwz_graph.specs.declared.index.TopEntry.{TopEntry}
use Rattle.dwz_graph.specs.Steps.{space_entry, spaces_among, spaces_by, step, steps_among, steps_below, top_entry, tops_among, tops_by}

module _ {E : Type 0} (space : E → Bool) (e : E) (c n : Forest E) where
  pub steps_top : (top up i first : ℕ) → space e ≡ false → steps_among space top up i first (Entry e c n) ≡ step first 0 (suc top)
      ∷ (steps_below (suc top) first 0 (first + 1) c ++ steps_among space (suc top) up (suc i) (first + 1 + size c) n)
  unfolding steps_among
  steps_top top up i first h = rw (h, steps_among) refl

  pub steps_space : (top up i first : ℕ) → space e ≡ true → steps_among space top up i first (Entry e c n) ≡ step up i 0
      ∷ (steps_among space top first 0 (first + 1) c ++ steps_among space (top + tops_by space c) up (suc i) (first + 1 + size c) n)
  unfolding steps_among
  steps_space top up i first h = rw (h, steps_among) refl

  pub tops_top : (unit inner k first : ℕ) → space e ≡ false → tops_among space unit inner k first (Entry e c n) ≡ top_entry first unit inner ∷ tops_among space unit inner k (first + 1 + size c) n
  unfolding tops_among
  tops_top unit inner k first h = rw (h, tops_among) refl

  pub tops_space : (unit inner k first : ℕ) → space e ≡ true → tops_among space unit inner k first (Entry e c n) ≡ tops_among space unit (suc k) (suc k) (first + 1) c
      ++ tops_among space unit inner (suc k + spaces_by space c) (first + 1 + size c) n
  unfolding tops_among
  tops_space unit inner k first h = rw (h, tops_among) refl

  pub spaces_top : (outer k first : ℕ) → space e ≡ false → spaces_among space outer k first (Entry e c n) ≡ spaces_among space outer k (first + 1 + size c) n
  unfolding spaces_among
  spaces_top outer k first h = rw (h, spaces_among) refl

  pub spaces_space : (outer k first : ℕ) → space e ≡ true → spaces_among space outer k first (Entry e c n) ≡ space_entry first outer
      ∷ (spaces_among space (suc k) (suc k) (first + 1) c ++ spaces_among space outer (suc k + spaces_by space c) (first + 1 + size c) n)
  unfolding spaces_among
  spaces_space outer k first h = rw (h, spaces_among) refl

module _ {E : Type 0} (space : E → Bool) where
  pub tops_many : (unit inner k first : ℕ) (f : Forest E) → length (tops_among space unit inner k first f) ≡ tops_by space f
  unfolding tops_among tops_by
  tops_many unit inner k first End = refl
  tops_many unit inner k first (Entry e c n) =
      go (tops_many unit inner k (first + 1 + size c) n) (tops_many unit (suc k) (suc k) (first + 1) c) (tops_many unit inner (suc k + spaces_by space c) (first + 1 + size c) n) (space e)
    where
      a : List TopEntry
      a = tops_among space unit (suc k) (suc k) (first + 1) c

      b : List TopEntry
      b = tops_among space unit inner (suc k + spaces_by space c) (first + 1 + size c) n

      go : length (tops_among space unit inner k (first + 1 + size c) n) ≡ tops_by space n → length a ≡ tops_by space c → length b ≡ tops_by space n → (t : Bool)
          → length (elim t as (λ _. List TopEntry) [ false ↦ top_entry first unit inner ∷ tops_among space unit inner k (first + 1 + size c) n | true ↦ a ++ b ])
          ≡ (elim t as (λ _. ℕ) [ false ↦ suc (tops_by space n) | true ↦ tops_by space c + tops_by space n ])
      go p q r false = ap suc p
      go p q r true = length-append a b ∙ (λ j. q j + r j)

  pub spaces_many : (outer k first : ℕ) (f : Forest E) → length (spaces_among space outer k first f) ≡ spaces_by space f
  unfolding spaces_among spaces_by
  spaces_many outer k first End = refl
  spaces_many outer k first (Entry e c n) =
      go (spaces_many outer k (first + 1 + size c) n) (spaces_many (suc k) (suc k) (first + 1) c) (spaces_many outer (suc k + spaces_by space c) (first + 1 + size c) n) (space e)
    where
      a : List SpaceEntry
      a = spaces_among space (suc k) (suc k) (first + 1) c

      b : List SpaceEntry
      b = spaces_among space outer (suc k + spaces_by space c) (first + 1 + size c) n

      go : length (spaces_among space outer k (first + 1 + size c) n) ≡ spaces_by space n → length a ≡ spaces_by space c → length b ≡ spaces_by space n → (t : Bool)
          → length (elim t as (λ _. List SpaceEntry) [ false ↦ spaces_among space outer k (first + 1 + size c) n | true ↦ space_entry first outer ∷ (a ++ b) ])
          ≡ (elim t as (λ _. ℕ) [ false ↦ spaces_by space n | true ↦ suc (spaces_by space c + spaces_by space n) ])
      go p q r false = p
      go p q r true = ap suc (length-append a b ∙ (λ j. q j + r j))

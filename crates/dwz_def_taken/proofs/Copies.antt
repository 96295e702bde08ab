-- Entries with one copy are just those that are copies.
use Rattle.std.proofs.Common.{◌≡◌, ◌⊎◌, ℕ, ◌≤◌, Bool, true, false, List, [], ◌∷◌, refl, sym, ap, subst, ◌∙◌, inl, inr}
use Rattle.std.proofs.lemmas.Bool.{and_parts, leb-true}
use Rattle.std.specs.Prelude.{nat_le}
use Rattle.dwz_def_tops.specs.Deciding.{Test}
use Rattle.dwz_def_tops.specs.Spots.{EntryName, Top, Within, tops_of}
use Rattle.dwz_def_images.specs.Homes.{first_alike}
use Rattle.dwz_def_taken.specs.Beside.{CommonAlike, Copies, Reused, look_units, own_tops}
use Rattle.dwz_def_taken.specs.Laws.{CopiesLaw}
use Rattle.dwz_def_taken.specs.Over.{common_test, copy, copy_of}
use Rattle.dwz_def_taken.proofs.CommonLemmas.{common_per, copy_same, look, look_is}

-- what stands for a top is that top, or alike to it
found : (test : Test) (n : ℕ) (tops : List Top) → (first_alike test n tops ≡ n) ⊎ (test n (first_alike test n tops) ≡ true)
unfolding first_alike
found test n [] = inl refl
found test n (t ∷ tops) = go (test n t.number) refl (found test n tops) where
  go : (b : Bool) → test n t.number ≡ b → (first_alike test n tops ≡ n) ⊎ (test n (first_alike test n tops) ≡ true)
      → ((elim b as (λ _. ℕ) [ true ↦ t.number | false ↦ first_alike test n tops ]) ≡ n)
      ⊎ (test n (elim b as (λ _. ℕ) [ true ↦ t.number | false ↦ first_alike test n tops ]) ≡ true)
  go true q more = inr q
  go false q more = more

module _ (r : Reused) where
  abbrev test : Test
  test = common_test r

  of_test : (m n : ℕ) → test m n ≡ true → (own_tops r ≤ m) × CommonAlike r m n
  of_test m n e =
      let p = and_parts (look r m n) _ e in
      let q = and_parts (nat_le (own_tops r) m) (nat_le (own_tops r) n) p.1 in
      (leb-true (own_tops r) m q.0, record { common = leb-true (own_tops r) n q.1; alike = (look_is r).decides m n p.0 })

  one_copy : (m n : ℕ) → copy r m ≡ copy r n → (m ≡ n) ⊎ ((own_tops r ≤ m) × CommonAlike r m n)
  one_copy m n e = go (found test m (tops_of (look_units r))) (found test n (tops_of (look_units r))) where
    at : (l k k' : ℕ) → k ≡ k' → test l k ≡ true → test l k' ≡ true
    at l k k' same = subst (λ (i : ℕ). test l i ≡ true) same

    go : (copy r m ≡ m) ⊎ (test m (copy r m) ≡ true) → (copy r n ≡ n) ⊎ (test n (copy r n) ≡ true) → (m ≡ n) ⊎ ((own_tops r ≤ m) × CommonAlike r m n)
    go (inl p) (inl q) = inl (sym p ∙ e ∙ q)
    go (inl p) (inr q) = inr (of_test m n ((common_per r).turns n m (at n (copy r n) m (sym e ∙ p) q)))
    go (inr p) (inl q) = inr (of_test m n (at m (copy r m) n (e ∙ q) p))
    go (inr p) (inr q) = inr (of_test m n ((common_per r).joins m (copy r n) n (at m (copy r m) (copy r n) e p) ((common_per r).turns n (copy r n) q)))

  copies_from : (a b : EntryName) → copy_of r a ≡ copy_of r b → Copies r a b
  copies_from (Within s p) (Within t q) e = (one_copy s t (let x : copy r s ≡ copy r t = cc in x), (let x : p ≡ q = cc in x))
  copies_from (Within s p) _ e = absurd cc
  copies_from _ (Within t q) e = absurd cc
  copies_from _ _ e = e

  copies_to : (a b : EntryName) → Copies r a b → copy_of r a ≡ copy_of r b
  copies_to (Within s p) (Within t q) e = (let x : copy r s ≡ copy r t = same e.0 in let y = e.1 in λ i. Within (x i) (y i)) where
    same : (s ≡ t) ⊎ ((own_tops r ≤ s) × CommonAlike r s t) → copy r s ≡ copy r t
    same (inl o) = ap (copy r) o
    same (inr o) = copy_same r s t o.0 o.1
  copies_to (Within s p) _ e = absurd cc
  copies_to _ (Within t q) e = absurd cc
  copies_to _ _ e = e

pub copies_law : CopiesLaw
copies_law r a b = (copies_from r a b, copies_to r a b)

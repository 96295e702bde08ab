-- Files that are read one after the other: there are as many as contents, and one more may follow.
use Rattle.std.proofs.Common.{◌≡◌, ℕ, suc, ◌+◌, List, [], ◌∷◌, ◌++◌, length, refl, sym, ap, subst, ◌∙◌, arith}
use Rattle.dwz_def_reading.specs.Files.{Limits, limits_after}
use Rattle.dwz_graph.specs.declared.file.File.{File}
use Rattle.dwz_graph.specs.ByRule.{AreReadAs}
use Rattle.dwz_unit.specs.Rows.{units_of}

module _ (Is : Limits → ℕ → List ℕ → File → Type 0) where
  pub are_more : (l : Limits) (n : ℕ) (xs : List (List ℕ)) (fs : List File) (end next : Limits) (b : List ℕ) (f : File) → AreReadAs Is l n xs fs end → Is end (n + length xs) b f
      → limits_after end b (units_of f.units) ≡ next → AreReadAs Is l n (xs ++ b ∷ []) (fs ++ f ∷ []) next
  are_more l n [] [] end next b f h r e = (
    subst (λ (m : Limits). Is m n b f) (sym h) (subst (λ (k : ℕ). Is end k b f) (let none : n + 0 ≡ n = omega arith in none) r),
    ap (λ (m : Limits). limits_after m b (units_of f.units)) h ∙ e,
  )
  are_more l n [] (g ∷ fs) end next b f h r e = absurd h
  are_more l n (x ∷ xs) [] end next b f h r e = absurd h
  are_more l n (x ∷ xs) (g ∷ fs) end next b f h r e =
      let one : n + suc (length xs) ≡ suc n + length xs = omega arith in
      (h.0, are_more (limits_after l x (units_of g.units)) (suc n) xs fs end next b f h.1 (subst (λ (k : ℕ). Is end k b f) one r) e)

  pub many_as : (l : Limits) (n : ℕ) (xs : List (List ℕ)) (fs : List File) (end : Limits) → AreReadAs Is l n xs fs end → length fs ≡ length xs
  many_as l n [] [] end h = refl
  many_as l n [] (f ∷ fs) end h = absurd h
  many_as l n (b ∷ xs) [] end h = absurd h
  many_as l n (b ∷ xs) (f ∷ fs) end h = let rest = many_as (limits_after l b (units_of f.units)) (suc n) xs fs end h.1 in omega arith

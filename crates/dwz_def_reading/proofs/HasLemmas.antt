-- A number that is one of some is found among them.
use Rattle.std.proofs.Common.{◌≡◌, ℕ, Bool, true, false, List, [], ◌∷◌, refl, inl, inr, eq-eqb, ◌==◌, if◌then◌else◌}
use Rattle.dwz_model.specs.Lists.{In}
use Rattle.dwz_codes.specs.Rows.{has}

pub in_has : (n : ℕ) (ms : List ℕ) → In n ms → has n ms ≡ true
unfolding has
in_has n [] h = absurd h
in_has n (m ∷ ms) (inl e) = rw (eq-eqb m n e, has) refl
in_has n (m ∷ ms) (inr r) = go (in_has n ms r) (m == n) where
  go : has n ms ≡ true → (b : Bool) → (if b then true else has n ms) ≡ true
  go more true = refl
  go more false = more

-- Lists of numbers that are all below how many lists there are.
use Rattle.std.proofs.Common.{ℕ, suc, ◌<◌, All, List, [], ◌∷◌, length, get_or, inl, inr, arith}
use Rattle.dwz_model.specs.Lists.{In}
use Rattle.dwz_groups.specs.Spreading.{AreInside}
use Rattle.dwz_groups.proofs.MarkLemmas.{inside_at}

all_after : (P : ℕ → Type 0) (x : ℕ) (xs : List ℕ) → All P (x ∷ xs) → All P xs
all_after P x xs h k d l = h (suc k) d (omega (arith, l))

all_in : (m : ℕ) (ns : List ℕ) → All (λ n. n < m) ns → (n : ℕ) → In n ns → n < m
all_in m [] h n there = absurd there
all_in m (k ∷ ns) h n (inl e) = (let lt = h 0 k (omega arith) in omega (arith, e, lt))
all_in m (k ∷ ns) h n (inr later) = all_in m ns (all_after (λ (n : ℕ). n < m) k ns h) n later

pub are_inside : (targets : List (List ℕ)) → All (λ ts. All (λ t. t < length targets) ts) targets → AreInside targets
are_inside targets h m n i = all_in (length targets) (get_or targets m []) (h m [] (inside_at targets m n i)) n i

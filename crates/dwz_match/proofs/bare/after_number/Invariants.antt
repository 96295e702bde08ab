use Rattle.std.proofs.Common.{◌≡◌, ◌++◌, ℕ, List, length}
use Rattle.dwz_label.specs.Labels.{number}
use Rattle.dwz_match.proofs.bare.after_number.Given as goal

abbrev pub invariant-groups : goal.invariant-groups
invariant-groups l = (n : ℕ) (rest : List ℕ) → l.label ≡ number n ++ rest → (m : ℕ) × (l.left ≡ number m ++ rest)

abbrev pub decreases-groups : goal.decreases-groups
decreases-groups l = length l.left

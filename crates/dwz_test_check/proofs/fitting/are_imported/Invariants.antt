use Rattle.std.proofs.Common.{ℕ, ◌<◌, [], All, get_or}
use Rattle.dwz_test_check.proofs.fitting.are_imported.Given as goal

abbrev pub invariant-loop-unit : goal.invariant-loop-unit
invariant-loop-unit l = (k : ℕ) → k < l.unit → All (λ y. y < l.count) (get_or l.imports k [])

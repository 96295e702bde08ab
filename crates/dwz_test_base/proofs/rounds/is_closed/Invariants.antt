use Rattle.std.proofs.Common.{ℕ, ◌<◌, All, length}
use Rattle.dwz_nodes.specs.Graph.{targets_at}
use Rattle.dwz_test_base.proofs.rounds.is_closed.Given as goal

abbrev pub invariant-loop-a : goal.invariant-loop-a
invariant-loop-a l = (a : ℕ) → a < l.a → All (λ t. t < length l.nodes) (targets_at l.nodes a)

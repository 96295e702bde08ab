use Rattle.std.proofs.Common.{◌≡◌, ℕ, ◌<◌, length}
use Rattle.std.specs.Prelude.{slice_index}
use Rattle.dwz_nodes.specs.Graph.{targets_at}
use Rattle.dwz_rounds.proofs.labels.have_as_many.Given as goal

abbrev pub invariant-loop-a : goal.invariant-loop-a
invariant-loop-a l = (b : ℕ) → b < l.a → length (targets_at l.nodes b) ≡ length (targets_at l.nodes (slice_index l.classes b))

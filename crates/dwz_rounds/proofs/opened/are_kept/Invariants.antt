use Rattle.std.proofs.Common.{ℕ, ◌<◌}
use Rattle.std.specs.Prelude.{slice_index}
use Rattle.dwz_rounds.specs.Marked.{IsMarked}
use Rattle.dwz_rounds.proofs.opened.are_kept.Given as goal

abbrev pub invariant-loop-target : goal.invariant-loop-target
invariant-loop-target l = (i : ℕ) → i < l.target-index → ¬ (IsMarked l.moved (slice_index l.targets i))

use Rattle.std.proofs.Common.{ℕ, ◌<◌}
use Rattle.std.specs.Prelude.{◌↔◌}
use Rattle.dwz_model.specs.Lists.{In}
use Rattle.dwz_groups.specs.Spreading.{IsMarked}
use Rattle.dwz_groups.proofs.marks.marked_numbers.Given as goal

abbrev pub invariant-loop-n : goal.invariant-loop-n
invariant-loop-n l = (m : ℕ) → In m l.work.items ↔ (IsMarked l.marks m × (m < l.n))

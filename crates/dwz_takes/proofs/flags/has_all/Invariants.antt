use Rattle.std.proofs.Common.{ℕ, take}
use Rattle.dwz_model.specs.Lists.{In}
use Rattle.dwz_groups.specs.Spreading.{IsMarked}
use Rattle.dwz_takes.proofs.flags.has_all.Given as goal

abbrev pub invariant-loop-number : goal.invariant-loop-number
invariant-loop-number l = (n : ℕ) → In n (take l.number-index l.list) → IsMarked l.flags n

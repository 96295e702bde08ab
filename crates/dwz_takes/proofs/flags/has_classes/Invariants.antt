use Rattle.std.proofs.Common.{ℕ, take, get_or}
use Rattle.dwz_model.specs.Lists.{In}
use Rattle.dwz_groups.specs.Spreading.{IsMarked}
use Rattle.dwz_takes.proofs.flags.has_classes.Given as goal

abbrev pub invariant-loop-top : goal.invariant-loop-top
invariant-loop-top l = (t : ℕ) → In t (take l.top-index l.tops) → IsMarked l.flags (get_or l.classes t 0)

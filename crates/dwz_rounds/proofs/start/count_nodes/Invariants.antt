use Rattle.std.proofs.Common.{◌≡◌, length}
use Rattle.dwz_rounds.proofs.start.count_nodes.Given as goal

abbrev pub invariant-loop-class : goal.invariant-loop-class
invariant-loop-class l = length l.sizes ≡ length l.initial.sizes

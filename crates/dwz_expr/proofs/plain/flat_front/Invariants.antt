use Rattle.std.proofs.Common.{◌-◌, length}
use Rattle.dwz_expr.specs.Few.{ArePlain}
use Rattle.dwz_expr.proofs.plain.flat_front.Given as goal

abbrev pub invariant-loop-found : goal.invariant-loop-found
invariant-loop-found l = ArePlain 0 l.bytes 0 l.found

abbrev pub decreases-loop-found : goal.decreases-loop-found
decreases-loop-found l = length l.bytes - l.found.end

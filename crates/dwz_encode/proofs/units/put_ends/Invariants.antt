use Rattle.std.proofs.Common.{◌≡◌, ◌++◌, replicate}
use Rattle.dwz_encode.proofs.units.put_ends.Given as goal

abbrev pub invariant-loop : goal.invariant-loop
invariant-loop l = l.out.items ≡ l.fn.out.items ++ replicate l.counter 0

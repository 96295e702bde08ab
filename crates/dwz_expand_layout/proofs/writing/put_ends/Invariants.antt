use Rattle.std.proofs.Common.{◌≡◌, ◌++◌, replicate}
use Rattle.dwz_expand_layout.proofs.writing.put_ends.Given as goal

abbrev pub invariant-loop : goal.invariant-loop
invariant-loop l = l.out.items ≡ l.fn.out.items ++ replicate l.counter 0

use Rattle.std.proofs.Common.{◌≡◌, ◌++◌, Some, map}
use Rattle.std.specs.List.{range_with_len}
use Rattle.dwz_reuse.proofs.own.put_numbers.Given as goal

abbrev pub invariant-loop-k : goal.invariant-loop-k
invariant-loop-k l = l.own.items ≡ l.fn.own.items ++ map Some (range_with_len l.from l.k)

use Rattle.std.proofs.Common.{◌≡◌, ◌-◌, ◌++◌, replicate}
use Rattle.dwz_expand_file.proofs.bytes.put_zeros.Given as goal

abbrev pub invariant-loop-i : goal.invariant-loop-i
invariant-loop-i l = l.out.items ++ replicate (l.count - l.i) 0 ≡ l.initial.out.items ++ replicate l.count 0

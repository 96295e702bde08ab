use Rattle.std.proofs.Common.{◌≡◌, ◌++◌, ◌-◌}
use Rattle.dwz_bytes.specs.Spelling.{le_bytes}
use Rattle.dwz_expand_layout.proofs.numbers.put_bytes.Given as goal

abbrev pub invariant-loop : goal.invariant-loop
invariant-loop l = l.out.items ++ le_bytes (l.width - l.counter) l.rest ≡ l.fn.out.items ++ le_bytes l.width l.number

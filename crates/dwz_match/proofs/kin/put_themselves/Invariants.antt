use Rattle.std.proofs.Common.{◌≡◌, ◌≤◌, ◌-◌, ◌++◌}
use Rattle.std.specs.List.{range_with_len}
use Rattle.dwz_match.proofs.kin.put_themselves.Given as goal

abbrev pub invariant-loop-number : goal.invariant-loop-number
invariant-loop-number l = (l.from ≤ l.number) × (l.number ≤ l.to) × (l.numbers.items ≡ l.fn.numbers.items ++ range_with_len l.from (l.number - l.from))

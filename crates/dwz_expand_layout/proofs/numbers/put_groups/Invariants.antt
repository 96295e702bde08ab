use Rattle.std.proofs.Common.{◌≡◌, ◌++◌}
use Rattle.dwz_bytes.specs.Spelling.{padded}
use Rattle.dwz_expand_layout.proofs.numbers.put_groups.Given as goal

abbrev pub invariant-loop-left : goal.invariant-loop-left
invariant-loop-left l = l.out.items ++ padded l.left l.rest ≡ l.fn.out.items ++ padded l.width l.number

abbrev pub decreases-loop-left : goal.decreases-loop-left
decreases-loop-left l = l.left

use Rattle.std.proofs.Common.{◌≡◌, ◌++◌}
use Rattle.dwz_label.specs.Labels.{number}
use Rattle.dwz_label_marks.proofs.pieces.put_groups.Given as goal

abbrev pub invariant-loop-rest : goal.invariant-loop-rest
invariant-loop-rest l = l.out.items ++ number l.rest ≡ l.fn.out.items ++ number l.value

abbrev pub decreases-loop-rest : goal.decreases-loop-rest
decreases-loop-rest l = l.rest

use Rattle.std.proofs.Common.{◌+◌}
use Rattle.dwz_bytes.specs.Spelling.{group_count}
use Rattle.dwz_bytes.proofs.PaddedLemmas.{Counts}
use Rattle.dwz_forms.proofs.numbers.group_count_of.Given as goal

abbrev pub invariant-loop-rest : goal.invariant-loop-rest
invariant-loop-rest l = Counts l.count l.rest (group_count l.value + 1)

abbrev pub decreases-loop-rest : goal.decreases-loop-rest
decreases-loop-rest l = l.rest

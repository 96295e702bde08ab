use Rattle.dwz_encode_sections.proofs.OverLemmas.{GroupsLeft}
use Rattle.dwz_encode_sections.proofs.numbers.put_groups.Given as goal

abbrev pub invariant-loop-left : goal.invariant-loop-left
invariant-loop-left l = GroupsLeft l.fn.out.items l.out.items l.at l.width l.number l.place l.left l.rest

abbrev pub decreases-loop-left : goal.decreases-loop-left
decreases-loop-left l = l.left

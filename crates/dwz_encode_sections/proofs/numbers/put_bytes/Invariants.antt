use Rattle.dwz_encode_sections.proofs.OverLemmas.{LeLeft}
use Rattle.dwz_encode_sections.proofs.numbers.put_bytes.Given as goal

abbrev pub invariant-loop-left : goal.invariant-loop-left
invariant-loop-left l = LeLeft l.fn.out.items l.out.items l.at l.width l.number l.place l.left l.rest

abbrev pub decreases-loop-left : goal.decreases-loop-left
decreases-loop-left l = l.left

use Rattle.dwz_encode_sections.proofs.ListLemmas.{IsLeft}
use Rattle.dwz_encode_sections.proofs.location_lists.lists.Given as goal

abbrev pub invariant-loop-i : goal.invariant-loop-i
invariant-loop-i l = IsLeft l.section l.operands l.numbers l.out.items l.i

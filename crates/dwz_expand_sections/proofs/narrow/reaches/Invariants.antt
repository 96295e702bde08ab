use Rattle.dwz_expand_sections.proofs.NarrowLemmas.{Left}
use Rattle.dwz_expand_sections.proofs.narrow.reaches.Given as goal

abbrev pub invariant-loop-k : goal.invariant-loop-k
invariant-loop-k l = Left l.radix l.count l.number l._k l.rest

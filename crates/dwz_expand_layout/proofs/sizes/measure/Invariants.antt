use Rattle.dwz_expand_layout.proofs.ValueLemmas.{Measured}
use Rattle.dwz_expand_layout.proofs.sizes.measure.Given as goal

abbrev pub invariant-loop-attr : goal.invariant-loop-attr
invariant-loop-attr l = Measured l.operands l.attrs l.attr-index l.room.items l.size

use Rattle.dwz_layout_numbers.proofs.CountLemmas.{Tops}
use Rattle.dwz_layout_numbers.proofs.counted.tops.Given as goal

abbrev pub invariant-loop-index : goal.invariant-loop-index
invariant-loop-index l = Tops l.indexes l.index-index l.start l.tops.items

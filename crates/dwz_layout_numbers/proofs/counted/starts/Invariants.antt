use Rattle.dwz_layout_numbers.proofs.CountLemmas.{Starts}
use Rattle.dwz_layout_numbers.proofs.counted.starts.Given as goal

abbrev pub invariant-loop-index : goal.invariant-loop-index
invariant-loop-index l = Starts l.indexes l.index-index l.start l.starts.items

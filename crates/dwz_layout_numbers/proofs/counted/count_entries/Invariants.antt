use Rattle.dwz_layout_numbers.proofs.CountLemmas.{Left}
use Rattle.dwz_layout_numbers.proofs.counted.count_entries.Given as goal

abbrev pub invariant-loop-index : goal.invariant-loop-index
invariant-loop-index l = Left l.indexes l.index-index l.count

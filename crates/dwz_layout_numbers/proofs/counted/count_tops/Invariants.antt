use Rattle.std.proofs.Common.{◌≡◌, length, min, sum_by, take}
use Rattle.dwz_graph.specs.Index.{Index}
use Rattle.dwz_layout_numbers.proofs.counted.count_tops.Given as goal

abbrev pub invariant-loop-index : goal.invariant-loop-index
invariant-loop-index l = l.count ≡ min (sum_by (λ (x : Index). length x.tops) (take l.index-index l.indexes)) 18446744073709551615

use Rattle.std.proofs.Common.{◌≡◌, take}
use Rattle.dwz_layout_order.specs.Parts.{file_pairs}
use Rattle.dwz_layout_order.proofs.parts.pairs_of.Given as goal

abbrev pub invariant-loop-number : goal.invariant-loop-number
invariant-loop-number l = l.pairs.items ≡ file_pairs 0 (take l.number l.partials)

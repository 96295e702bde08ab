use Rattle.std.proofs.Common.{◌≡◌, map, take}
use Rattle.dwz_layout_numbers.specs.Befores.{counts_of}
use Rattle.dwz_layout_numbers.proofs.firsts.counts_of_each.Given as goal

abbrev pub invariant-loop-number : goal.invariant-loop-number
invariant-loop-number l = l.counts.items ≡ map counts_of (take l.number l.declarations.pairs)

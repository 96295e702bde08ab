use Rattle.std.proofs.Common.{◌≡◌, map, take}
use Rattle.dwz_unit.specs.Named.{named_count}
use Rattle.dwz_unit.proofs.named.named_counts.Given as goal

abbrev pub invariant-loop-number : goal.invariant-loop-number
invariant-loop-number l = l.counts.items ≡ map named_count (take l.number l.decls)

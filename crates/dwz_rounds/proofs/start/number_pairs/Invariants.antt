use Rattle.std.proofs.Common.{◌≡◌, take}
use Rattle.dwz_rounds.specs.Start.{number_pairs}
use Rattle.dwz_rounds.proofs.start.number_pairs.Given as goal

abbrev pub invariant-loop-a : goal.invariant-loop-a
invariant-loop-a l = l.pairs.items ≡ number_pairs 0 (take l.a l.numbers)

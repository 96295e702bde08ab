use Rattle.std.proofs.Common.{◌≡◌, map, take}
use Rattle.dwz_move.specs.Weights.{pairs_weight}
use Rattle.dwz_move.proofs.declared.declared_weights.Given as goal

abbrev pub invariant-loop-number : goal.invariant-loop-number
invariant-loop-number l = l.weights.items ≡ map pairs_weight (take l.number l.declarations.pairs)

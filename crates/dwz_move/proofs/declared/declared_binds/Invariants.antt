use Rattle.std.proofs.Common.{◌≡◌, map, take}
use Rattle.dwz_move.specs.Bound.{pairs_bind}
use Rattle.dwz_move.proofs.declared.declared_binds.Given as goal

abbrev pub invariant-loop-number : goal.invariant-loop-number
invariant-loop-number l = l.binds.items ≡ map pairs_bind (take l.number l.declarations.pairs)

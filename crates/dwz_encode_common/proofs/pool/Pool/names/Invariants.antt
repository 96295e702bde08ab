use Rattle.std.proofs.Common.{◌≡◌, take}
use Rattle.dwz_encode_common.proofs.pool.Pool.names.Given as goal

abbrev pub invariant-loop-number : goal.invariant-loop-number
invariant-loop-number l = l.names.items ≡ take l.number l.self

use Rattle.std.proofs.Common.{◌≡◌, ◌++◌, drop}
use Rattle.dwz_def_encoding.specs.Placing.{texts_bytes}
use Rattle.dwz_encode_common.proofs.pool.Pool.section.Given as goal

abbrev pub invariant-loop-number : goal.invariant-loop-number
invariant-loop-number l = l.out.items ++ texts_bytes (drop l.number l.self) ≡ texts_bytes l.self

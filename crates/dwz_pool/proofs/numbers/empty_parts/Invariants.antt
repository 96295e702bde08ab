use Rattle.std.proofs.Common.{◌≡◌, [], All, length}
use Rattle.dwz_pool.proofs.numbers.empty_parts.Given as goal

abbrev pub invariant-loop : goal.invariant-loop
invariant-loop l = (length l.parts.items ≡ l.counter) × All (λ part. part.entries ≡ []) l.parts.items

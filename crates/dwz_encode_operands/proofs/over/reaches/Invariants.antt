use Rattle.std.proofs.Common.{◌≡◌, ◌^◌}
use Rattle.dwz_encode_operands.proofs.over.reaches.Given as goal

abbrev pub invariant-loop-k : goal.invariant-loop-k
invariant-loop-k l = l.power ≡ l.radix ^ l._k

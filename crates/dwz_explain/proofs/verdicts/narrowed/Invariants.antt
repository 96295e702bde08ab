use Rattle.std.proofs.Common.{◌≡◌, take}
use Rattle.dwz_explain.proofs.verdicts.narrowed.Given as goal

abbrev pub invariant-loop-number : goal.invariant-loop-number
invariant-loop-number l = l.numbers.items ≡ take l.number-index l.chain

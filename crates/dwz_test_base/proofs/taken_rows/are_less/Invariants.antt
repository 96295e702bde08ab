use Rattle.std.proofs.Common.{ℕ, ◌<◌, take}
use Rattle.dwz_model.specs.Lists.{In}
use Rattle.dwz_test_base.proofs.taken_rows.are_less.Given as goal

abbrev pub invariant-loop-number : goal.invariant-loop-number
invariant-loop-number l = (n : ℕ) → In n (take l.number-index l.numbers) → n < l.bound

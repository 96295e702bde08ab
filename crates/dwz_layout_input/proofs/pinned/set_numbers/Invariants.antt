use Rattle.std.proofs.Common.{◌≡◌, length}
use Rattle.dwz_layout_input.specs.Places.{AreNone}
use Rattle.dwz_layout_input.proofs.NumberSteps.{SetUpTo}
use Rattle.dwz_layout_input.proofs.pinned.set_numbers.Given as goal

abbrev pub invariant-loop-k : goal.invariant-loop-k
invariant-loop-k l = record {
  len : length l.numbers.items ≡ length l.fn.numbers.items;
  set : AreNone l.fn.numbers.items → SetUpTo l.first l.spaces l.k l.numbers.items;
}

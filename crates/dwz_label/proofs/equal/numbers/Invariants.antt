use Rattle.std.proofs.Common.{◌≡◌, ℕ, ◌<◌, length}
use Rattle.std.specs.Prelude.{slice_index}
use Rattle.dwz_label.proofs.equal.numbers.Given as goal

abbrev pub invariant-loop-n : goal.invariant-loop-n
invariant-loop-n l = record {
  len : length l.numbers.items ≡ l.n;
  each : (i : ℕ) → i < l.n → slice_index l.numbers.items i ≡ i;
}

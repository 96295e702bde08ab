use Rattle.std.proofs.Common.{◌≡◌, ℕ, ◌<◌, length}
use Rattle.std.specs.Prelude.{slice_index}
use Rattle.dwz_nodes.specs.Looks.{IsLeastBelow}
use Rattle.dwz_rounds.proofs.Finishing.{AreFirst}
use Rattle.dwz_rounds.proofs.finish.put_least.Given as goal

abbrev pub invariant-loop-a : goal.invariant-loop-a
invariant-loop-a l = record {
  many : length l.firsts ≡ length l.numbers;
  firsts : AreFirst l.numbers l.a l.firsts;
  len : length l.least.items ≡ l.a;
  each : (b : ℕ) → b < l.a → IsLeastBelow (length l.numbers) (λ c. slice_index l.numbers b ≡ slice_index l.numbers c) (slice_index l.least.items b);
}

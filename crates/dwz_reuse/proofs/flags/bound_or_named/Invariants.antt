use Rattle.std.proofs.Common.{◌≡◌, ◌<◌, ◌+◌, ◌||◌, ℕ, false, get_or, length}
use Rattle.dwz_reuse.proofs.flags.bound_or_named.Given as goal

abbrev pub invariant-loop-top : goal.invariant-loop-top
invariant-loop-top l = record {
  len : length l.seeds.items ≡ l.top;
  each : (k : ℕ) → k < l.top → get_or l.seeds.items k false ≡ (get_or l.binding k false || get_or l.named (l.first + k) false);
}

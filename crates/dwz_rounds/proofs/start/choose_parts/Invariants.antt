use Rattle.std.proofs.Common.{◌≡◌, ◌<◌, All, length}
use Rattle.dwz_rounds.proofs.start.choose_parts.Given as goal

abbrev pub invariant-loop-a : goal.invariant-loop-a
invariant-loop-a l = record {
  len : length l.largest ≡ length l.initial.largest;
  inside : All (λ c. c < length l.classes) l.largest;
}

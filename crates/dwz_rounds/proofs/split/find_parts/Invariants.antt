use Rattle.std.proofs.Common.{◌≡◌, ◌≤◌, length}
use Rattle.dwz_rounds.proofs.split.find_parts.Given as goal

abbrev pub invariant-loop-at : goal.invariant-loop-at
invariant-loop-at l = record {
  len : length l.parts ≡ length l.initial.parts;
  started : l.start ≤ l.at;
}

use Rattle.std.proofs.Common.{◌≡◌, length}
use Rattle.dwz_rounds.specs.Open.{MarksShared}
use Rattle.dwz_rounds.proofs.opened.mark_shared.Given as goal

abbrev pub invariant-loop-a : goal.invariant-loop-a
invariant-loop-a l = record {
  len : length l.shared ≡ length l.initial.shared;
  marked : MarksShared l.classes l.live l.a-index l.shared;
}

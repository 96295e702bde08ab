use Rattle.std.proofs.Common.{◌≡◌, length}
use Rattle.dwz_rounds.specs.Open.{MarksMoved}
use Rattle.dwz_rounds.proofs.opened.mark_moved.Given as goal

abbrev pub invariant-loop-a : goal.invariant-loop-a
invariant-loop-a l = record {
  len : length l.moved ≡ length l.initial.moved;
  marked : MarksMoved l.before l.classes l.live l.a-index l.moved;
}

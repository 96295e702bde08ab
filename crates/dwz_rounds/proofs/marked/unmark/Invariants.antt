use Rattle.std.proofs.Common.{◌≡◌, length}
use Rattle.dwz_rounds.proofs.Marking.{AreUnmarked}
use Rattle.dwz_rounds.proofs.marked.unmark.Given as goal

abbrev pub invariant-loop-number : goal.invariant-loop-number
invariant-loop-number l = record {
  len : length l.marks ≡ length l.initial.marks;
  unmarked : AreUnmarked l.marks l.list l.number-index;
}

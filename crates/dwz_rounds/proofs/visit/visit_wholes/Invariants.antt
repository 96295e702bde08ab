use Rattle.std.proofs.Common.{◌≡◌, ◌≤◌, length}
use Rattle.dwz_rounds.specs.Marked.{AreMarked}
use Rattle.dwz_rounds.specs.Pending.{AreWithWholes}
use Rattle.dwz_rounds.proofs.visit.visit_wholes.Given as goal

abbrev pub invariant-loop-at : goal.invariant-loop-at
invariant-loop-at l = record {
  marks : length l.marks ≡ length l.initial.marks;
  whole : length l.whole ≡ length l.initial.whole;
  grown : l.count ≤ length l.visit.items;
  marked : AreMarked l.marks l.visit.items;
  marked_wholes : AreMarked l.whole l.wholes.items;
  with_wholes : AreWithWholes l.numbers l.initial.visit.items l.visit.items l.wholes.items;
}

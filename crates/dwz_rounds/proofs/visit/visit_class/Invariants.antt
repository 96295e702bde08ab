use Rattle.std.proofs.Common.{◌≡◌, ◌≤◌, length}
use Rattle.dwz_rounds.specs.Marked.{AreMarked}
use Rattle.dwz_rounds.specs.Pending.{AreOfClass}
use Rattle.dwz_rounds.proofs.visit.visit_class.Given as goal

abbrev pub invariant-loop-at : goal.invariant-loop-at
invariant-loop-at l = record {
  len : length l.marks ≡ length l.initial.marks;
  grown : length l.initial.visit.items ≤ length l.visit.items;
  marked : AreMarked l.marks l.visit.items;
  of_class : AreOfClass l.numbers l.members l.class l.fn.range.start l.at l.initial.visit.items l.visit.items;
}

use Rattle.dwz_label_marks.specs.Told.{Keeps}
use Rattle.dwz_label_join.proofs.JoinLemmas.{NumbersTo}
use Rattle.dwz_label_join.proofs.joined.join.Given as goal

abbrev pub invariant-loop-n : goal.invariant-loop-n
invariant-loop-n l = record {
  kept : Keeps l.fn.names l.names;
  numbers : NumbersTo l.others l.names l.n l.numbers.items;
}

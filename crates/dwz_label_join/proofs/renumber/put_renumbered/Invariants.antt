use Rattle.std.proofs.Common.{◌-◌, ℕ, List, length}
use Rattle.dwz_label_marks.specs.Marks.{Mark}
use Rattle.dwz_label_marks.specs.Told.{Tells}
use Rattle.dwz_label_join.specs.Joined.{AreNumbersIn}
use Rattle.dwz_label_join.proofs.MarkLemmas.{MarksLeft}
use Rattle.dwz_label_join.proofs.renumber.put_renumbered.Given as goal

abbrev pub invariant-marks : goal.invariant-marks
invariant-marks l = (names others : List (List ℕ)) (marks : List Mark) → Tells names marks l.label → AreNumbersIn names others l.numbers
    → MarksLeft names others marks l.label l.at l.fn.out.items l.out.items

abbrev pub decreases-marks : goal.decreases-marks
decreases-marks l = length l.label - l.at

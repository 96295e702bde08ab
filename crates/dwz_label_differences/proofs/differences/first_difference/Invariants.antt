use Rattle.std.proofs.Common.{◌<◌, ◌^◌, length}
use Rattle.dwz_def_reading.specs.Lists.{Each}
use Rattle.dwz_def_explain.specs.What.{Subtree}
use Rattle.dwz_label_differences.specs.Labels.{AreEntryLabels, whole}
use Rattle.dwz_label_differences.proofs.DifferenceLemmas.{SameUpTo}
use Rattle.dwz_label_differences.proofs.differences.first_difference.Given as goal

abbrev pub invariant-loop-k : goal.invariant-loop-k
invariant-loop-k l =
    (x y : Subtree) → AreEntryLabels (whole x) l.a → AreEntryLabels (whole y) l.b → Each (λ d. length d.node.attrs < 2 ^ 32) (whole x) → SameUpTo l.k (whole x) (whole y)

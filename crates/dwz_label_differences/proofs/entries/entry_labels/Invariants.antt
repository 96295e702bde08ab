use Rattle.std.proofs.Common.{◌≡◌}
use Rattle.dwz_def_explain.specs.What.{Subtree}
use Rattle.dwz_label_differences.specs.Labels.{whole_label}
use Rattle.dwz_label_differences.proofs.EntryLemmas.{AreReadTo}
use Rattle.dwz_label_differences.proofs.entries.entry_labels.Given as goal

abbrev pub invariant-loop : goal.invariant-loop
invariant-loop l = (x : Subtree) → l.label ≡ whole_label x → AreReadTo x l.rows.items l.left l.counter

use Rattle.dwz_label.specs.Labels.{target_label}
use Rattle.dwz_label_differences.proofs.Numbers.{IsAfterSome}
use Rattle.dwz_label_differences.proofs.pieces.after_targets.Given as goal

abbrev pub invariant-loop : goal.invariant-loop
invariant-loop l = IsAfterSome target_label l.label l.left l.counter

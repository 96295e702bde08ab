use Rattle.dwz_label.specs.Labels.{parts_label}
use Rattle.dwz_label_differences.proofs.Numbers.{IsAfterSome}
use Rattle.dwz_label_differences.proofs.pieces.after_expressions.Given as goal

abbrev pub invariant-loop : goal.invariant-loop
invariant-loop l = IsAfterSome parts_label l.label l.left l.counter

use Rattle.dwz_label.specs.Labels.{number}
use Rattle.dwz_label_differences.proofs.Numbers.{IsAfterSome}
use Rattle.dwz_label_differences.proofs.pieces.after_numbers.Given as goal

abbrev pub invariant-loop : goal.invariant-loop
invariant-loop l = IsAfterSome number l.label l.left l.counter

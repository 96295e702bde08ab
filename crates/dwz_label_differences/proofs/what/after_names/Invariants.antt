use Rattle.dwz_label.specs.Labels.{counted}
use Rattle.dwz_label_differences.proofs.Numbers.{IsAfterSome}
use Rattle.dwz_label_differences.proofs.what.after_names.Given as goal

abbrev pub invariant-loop : goal.invariant-loop
invariant-loop l = IsAfterSome counted l.label l.left l.counter

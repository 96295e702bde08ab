use Rattle.dwz_label.specs.Labels.{attr_label}
use Rattle.dwz_label_differences.proofs.Numbers.{IsAfterSome}
use Rattle.dwz_label_differences.proofs.attributes.after_attributes.Given as goal

abbrev pub invariant-loop : goal.invariant-loop
invariant-loop l = IsAfterSome attr_label l.label l.left l.counter

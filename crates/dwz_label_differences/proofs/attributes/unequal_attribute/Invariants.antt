use Rattle.dwz_label.specs.Labels.{attr_label}
use Rattle.dwz_label_differences.proofs.AttributeLemmas.{AreSameTo}
use Rattle.dwz_label_differences.proofs.Numbers.{IsAfterSome}
use Rattle.dwz_label_differences.proofs.attributes.unequal_attribute.Given as goal

abbrev pub invariant-loop-i : goal.invariant-loop-i
invariant-loop-i l = record {
  first : IsAfterSome attr_label l.a l.a_left l.i;
  second : IsAfterSome attr_label l.b l.b_left l.i;
  same : AreSameTo l.a l.b l.i;
}

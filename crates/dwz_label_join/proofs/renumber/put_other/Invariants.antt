use Rattle.std.proofs.Common.{◌≡◌, ◌-◌, ◌++◌, ◌≤◌, ◌<◌, ◌^◌, ℕ, List, drop, length}
use Rattle.dwz_label.specs.Labels.{number}
use Rattle.dwz_label_join.proofs.GroupLemmas.{ReadLeft}
use Rattle.dwz_label_join.proofs.renumber.put_other.Given as goal

abbrev pub invariant-groups : goal.invariant-groups
invariant-groups l = record {
  from : l.start ≤ l.at;
  same : l.out.items ≡ l.fn.out.items;
  left : (whole : ℕ) (rest : List ℕ) → drop l.start l.label ≡ number whole ++ rest → whole < 2 ^ 64 → ReadLeft l.label l.at rest whole l.word l.scale;
}

abbrev pub decreases-groups : goal.decreases-groups
decreases-groups l = length l.label - l.at

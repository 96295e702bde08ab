use Rattle.std.proofs.Common.{◌≡◌, ◌-◌, ◌++◌, ◌≤◌, ℕ, List, drop, length}
use Rattle.dwz_label.specs.Labels.{number}
use Rattle.dwz_label_join.proofs.GroupLemmas.{SameLeft}
use Rattle.dwz_label_join.proofs.renumber.put_same.Given as goal

abbrev pub invariant-groups : goal.invariant-groups
invariant-groups l = record {
  from : l.start ≤ l.at;
  left : (word : ℕ) (rest : List ℕ) → drop l.start l.label ≡ number word ++ rest → SameLeft l.label l.at rest word l.fn.out.items l.out.items;
}

abbrev pub decreases-groups : goal.decreases-groups
decreases-groups l = length l.label - l.at

use Rattle.std.proofs.Common.{◌≡◌, ◌+◌, ◌≤◌, drop}
use Rattle.dwz_label_entries.specs.Words.{kept}
use Rattle.dwz_label_entries.proofs.entries.count_of.Given as goal

abbrev pub invariant-loop-pair : goal.invariant-loop-pair
invariant-loop-pair l = record {
  low : l.count ≤ l.pair-index;
  sum : l.count + kept (drop l.pair-index l.pairs) ≡ kept l.pairs;
}

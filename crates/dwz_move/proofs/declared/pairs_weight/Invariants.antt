use Rattle.std.proofs.Common.{◌≡◌, ◌≤◌, drop, Some}
use Rattle.dwz_move.specs.Weights.{pairs_weight, weigh_both}
use Rattle.dwz_move.proofs.declared.pairs_weight.Given as goal

abbrev pub invariant-loop-pair : goal.invariant-loop-pair
invariant-loop-pair l = record {
  low : l.weight ≤ 64;
  left : weigh_both (Some l.weight) (pairs_weight (drop l.pair-index l.pairs)) ≡ pairs_weight l.pairs;
}

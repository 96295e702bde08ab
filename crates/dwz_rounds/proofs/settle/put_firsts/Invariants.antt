use Rattle.std.proofs.Common.{◌≡◌, ℕ, ◌-◌, ◌<◌, ◌^◌, List, length}
use Rattle.dwz_rounds.specs.Settling.{AreByKey, IsPartly, IsPutTo}
use Rattle.dwz_rounds.proofs.settle.put_firsts.Given as goal

abbrev pub invariant-loop-at : goal.invariant-loop-at
invariant-loop-at l = record {
  len : length l.classes ≡ length l.initial.classes;
  put : (keys : List (List ℕ)) (todo : List ℕ) → length keys < 2 ^ 32 - 1 → IsPartly keys l.initial.classes todo → AreByKey keys todo l.nodes l.news
      → IsPutTo keys l.nodes l.initial.classes l.at l.classes l.first;
}

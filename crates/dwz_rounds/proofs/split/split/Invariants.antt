use Rattle.std.proofs.Common.{◌≡◌, ℕ, ◌<◌, ◌≤◌, List, length}
use Rattle.dwz_rounds.specs.Members.{AreMembers}
use Rattle.dwz_rounds.specs.Split.{IsGrouped, IsSplitting}
use Rattle.dwz_rounds.proofs.split.split.Given as goal

abbrev pub invariant-loop-at : goal.invariant-loop-at
invariant-loop-at l = record {
  len : length l.numbers ≡ length l.initial.numbers;
  members : AreMembers l.numbers l.ranges.items l.members.items;
  enough : l.count ≤ length l.ranges.items;
  number : l.number < length l.ranges.items;
  more : 0 < length l.pending.items → l.count < length l.ranges.items;
  splitting : (key : ℕ → List ℕ) → IsGrouped key l.initial.numbers l.nodes l.news → IsSplitting key l.nodes l.initial.numbers l.whole l.parts l.count l.at l.numbers l.pending.items l.number;
}

use Rattle.std.proofs.Common.{◌≡◌, ◌+◌, ◌<◌, length}
use Rattle.dwz_label.specs.Slots.{AreSlotted}
use Rattle.dwz_label.proofs.equal.put_all.Given as goal

abbrev pub invariant-loop-n : goal.invariant-loop-n
invariant-loop-n l = record {
  size : (0 < l.slots.size) × (length l.slots.slots.items ≡ l.slots.size + 16);
  len : length l.slots.firsts.items ≡ length l.labels;
  put : AreSlotted l.labels l.movable l.n l.slots;
}

use Rattle.std.proofs.Common.{◌≡◌, ◌≤◌, length, ◌-◌, ◌^◌, ◌<◌, drop, take}
use Rattle.dwz_bytes.specs.Reading.{groups_at}
use Rattle.dwz_bytes.specs.Spelling.{groups_value}
use Rattle.dwz_bytes.proofs.GroupLemmas.{behind}
use Rattle.dwz_bytes.proofs.groups.groups_of.Given as goal

abbrev pub invariant-loop-i : goal.invariant-loop-i
invariant-loop-i l = record {
  within : l.i ≤ length l.bytes;
  weight : l.scale ≡ 128 ^ l.i;
  small : l.value < l.scale;
  value : l.value ≡ groups_value (take l.i l.bytes);
  so_far : behind (take l.i l.bytes) (groups_at l.start (10 - l.i) (drop l.i l.bytes)) ≡ groups_at l.start 10 l.bytes;
}

use Rattle.std.proofs.Common.{◌≡◌, ◌*◌, ◌≤◌, Some, length, take}
use Rattle.dwz_unit.specs.FixedRuns.{fixed_bytes}
use Rattle.dwz_unit.proofs.fixed_run.run_of.Given as goal

abbrev pub invariant-loop-pair : goal.invariant-loop-pair
invariant-loop-pair l = record {
  counted : l.count ≡ l.pair-index;
  few : l.count ≤ 255;
  within : l.pair-index ≤ length l.pairs;
  small : l.bytes ≤ 16 * l.count;
  bytes : fixed_bytes (take l.pair-index l.pairs) ≡ Some l.bytes;
}

use Rattle.std.proofs.Common.{◌≡◌, ◌-◌, ◌++◌, length, take}
use Rattle.dwz_bytes.specs.Spelling.{padded}
use Rattle.dwz_bytes.proofs.writing.fill.Given as goal

abbrev pub invariant-loop-i : goal.invariant-loop-i
invariant-loop-i l = record {
  len : l.len ≡ length l.out;
  so_far : take l.i l.out ++ padded (l.len - l.i) l.rest ≡ padded l.len l.value;
}

use Rattle.std.proofs.Common.{◌≡◌, ◌-◌, ◌++◌}
use Rattle.dwz_bytes.specs.Spelling.{le_bytes}
use Rattle.dwz_expand_file.proofs.bytes.put_number.Given as goal

abbrev pub invariant-loop-i : goal.invariant-loop-i
invariant-loop-i l = l.out.items ++ le_bytes (l.width - l.i) l.rest ≡ l.initial.out.items ++ le_bytes l.width l.value

use Rattle.std.proofs.Common.{◌≡◌, ◌++◌, drop}
use Rattle.dwz_def_reading.specs.ElfLayout.{numbers}
use Rattle.dwz_sup.proofs.plain.put_numbers.Given as goal

abbrev pub invariant-loop-field : goal.invariant-loop-field
invariant-loop-field l = l.out.items ++ numbers (drop l.field-index l.fields) ≡ l.initial.out.items ++ numbers l.fields

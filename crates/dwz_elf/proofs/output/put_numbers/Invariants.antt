use Rattle.std.proofs.Common.{◌≡◌, ◌++◌, drop}
use Rattle.dwz_def_reading.specs.ElfLayout
use Rattle.dwz_elf.proofs.output.put_numbers.Given as goal

abbrev pub invariant-loop-field : goal.invariant-loop-field
invariant-loop-field l = l.out.items ++ ElfLayout.numbers (drop l.field-index l.fields) ≡ l.initial.out.items ++ ElfLayout.numbers l.fields

use Rattle.std.proofs.Common.{◌≡◌, ◌++◌, drop}
use Rattle.dwz_def_reading.specs.ElfLayout
use Rattle.dwz_elf.proofs.output.put_headers.Given as goal

abbrev pub invariant-loop-index : goal.invariant-loop-index
invariant-loop-index l =
    l.out.items ++ ElfLayout.new_headers l.input l.moved l.index (drop l.index l.sections)
    ≡ l.initial.out.items ++ ElfLayout.new_headers l.input l.moved 0 l.sections

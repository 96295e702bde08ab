use Rattle.std.proofs.Common.{◌≡◌, ◌++◌, drop, map}
use Rattle.dwz_def_expand.specs.Dropped
use Rattle.dwz_def_reading.specs.ElfNames.{section_named}
use Rattle.dwz_expand_file.proofs.without.put_headers.Given as goal

abbrev pub invariant-loop-header : goal.invariant-loop-header
invariant-loop-header l =
    l.out.items ++ Dropped.headers_without l.input (map (section_named l.table) (drop l.header-index l.headers))
    ≡ l.initial.out.items ++ Dropped.headers_without l.input (map (section_named l.table) l.headers)

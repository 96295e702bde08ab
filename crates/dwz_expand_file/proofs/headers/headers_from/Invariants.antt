use Rattle.std.proofs.Common.{◌≡◌, ◌+◌, ◌*◌, ◌-◌, ◌++◌}
use Rattle.dwz_def_reading.specs.ElfHeaders
use Rattle.dwz_expand_file.proofs.headers.headers_from.Given as goal

abbrev pub invariant-loop-index : goal.invariant-loop-index
invariant-loop-index l =
    l.headers.items ++ ElfHeaders.headers_from l.bytes (l.first + 64 * l.index) (l.count - l.index) ≡ ElfHeaders.headers_from l.bytes l.first l.count

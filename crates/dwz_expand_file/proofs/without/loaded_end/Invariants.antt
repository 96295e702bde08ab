use Rattle.std.proofs.Common.{◌≡◌, ℕ, List, drop, map, max}
use Rattle.dwz_def_reading.specs.ElfLayout
use Rattle.dwz_def_reading.specs.ElfNames.{section_named}
use Rattle.dwz_expand_file.proofs.without.loaded_end.Given as goal

abbrev pub invariant-loop-header : goal.invariant-loop-header
invariant-loop-header l =
    (table : List ℕ) → max l.last (ElfLayout.loaded_end (map (section_named table) (drop l.header-index l.headers)))
    ≡ ElfLayout.loaded_end (map (section_named table) l.headers)

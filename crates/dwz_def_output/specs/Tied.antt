-- What ties files to their common file: `.debug_sup` (DWARF 5, 7.3.6).
use Rattle.std.specs.Prelude.{ℕ, true, false, List, []}
use Rattle.dwz_def_reading.specs.declared.supplementary.Sup.{Sup}
use Rattle.dwz_def_reading.specs.Supplementary.{SpellsSup}
use Rattle.dwz_def_reading.specs.Files.{section_of}
use Rattle.dwz_def_readback.specs.Files.{Run}
use Rattle.dwz_def_output.specs.FilesAfter.{common_bytes}
pub use Rattle.dwz_def_output.specs.FilesAfter.{sum_of}

-- `.debug_sup` of a file says that
abbrev pub SaysSup : List ℕ → Sup → Type 0
SaysSup bytes s = SpellsSup (section_of bytes 9) s

-- the common file names no other, and has its own checksum
abbrev pub common_sup : Run → Sup
common_sup r = record { supplementary = true; name = []; sum = sum_of (common_bytes r) }

-- a file that imports from it has its name and its checksum
abbrev pub file_sup : List ℕ → Run → Sup
file_sup name r = record { supplementary = false; name = name; sum = sum_of (common_bytes r) }

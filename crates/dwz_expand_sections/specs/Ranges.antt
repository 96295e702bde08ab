-- Where the units of a file began and where they begin after, for its address ranges (DWARF 5, 6.1.2).
use Rattle.std.specs.Prelude.{◌≡◌, ℕ, ◌<◌, List, get_or, length, map}
use Rattle.dwz_def_expand.specs.OneFile.{OneFile, ReadsOne}
use Rattle.dwz_def_expand.specs.Output.{new_start, wholes}
use Rattle.dwz_def_reading.specs.Files.{debug_aranges, unit_places}
use Rattle.dwz_expand_layout.specs.declared.layout.LaidUnit.{LaidUnit}

-- The file reads, and the section is its `.debug_aranges`; the units that aren't partial began there, and the n-th of them is laid where
-- it begins after.
pub record HasStarts (f : OneFile) (section units : List ℕ) (laid : List LaidUnit) : Type 0 where
  pub read : ReadsOne f
  pub section_is : section ≡ debug_aranges f.file.bytes
  pub began : units ≡ unit_places f.file.raw
  pub starts : (n : ℕ) → n < length (wholes f) → get_or (map (λ u. u.at) laid) n 0 ≡ new_start f n

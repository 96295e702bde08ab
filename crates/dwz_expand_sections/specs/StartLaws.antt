-- What holds of the address ranges of a file that reads (DWARF 5, 6.1.2), and where new units begin.
use Rattle.std.specs.Prelude.{◌≡◌, ◌-◌, ◌^◌, ◌<◌, All, IsOk, List, length}
use Rattle.std.specs.List.Sorted.{IsStrictlyIncreasing}
use Rattle.dwz_aranges.specs.Views.{any_unit}
use Rattle.dwz_def_expand.specs.OneFile.{OneFile, ReadsOne}
use Rattle.dwz_def_expand.specs.Output.{wholes}
use Rattle.dwz_def_reading.specs.Files.{debug_aranges, unit_places}
use Rattle.dwz_def_reading.specs.Input.{input}
use Rattle.dwz_def_reading.specs.Ranges.{sets_at}
use Rattle.dwz_expand_layout.specs.Entries.{UnitLines}
use Rattle.dwz_expand_layout.specs.Laid.{laid}

-- its `.debug_aranges` reads; its units that aren't partial began one behind the other, and are as many as those of the new file
pub record CanHaveRanges (f : OneFile) : Type 0 where
  pub reads : IsOk (sets_at any_unit (input (debug_aranges f.file.bytes) 0))
  pub rises : IsStrictlyIncreasing (unit_places f.file.raw)
  pub as_many : length (unit_places f.file.raw) ≡ length (wholes f)

abbrev pub StartsLaw : Type 0
StartsLaw = (f : OneFile) → ReadsOne f → CanHaveRanges f

-- where new units aren't too large together, each begins at a place of four bytes
abbrev pub FewLaw : Type 0
FewLaw = (order : List UnitLines) → (laid order).end < 2 ^ 32 - 16 → All (λ u. u.at < 2 ^ 32) (laid order).units

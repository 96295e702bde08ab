-- The sections of the new file: its units as all units are written, each entry where the bytes before it end.
use Rattle.std.specs.Prelude.{Bool, List, [], ◌∷◌, ◌==◌, ◌&&◌}
use Rattle.dwz_def_reading.specs.Documents.{DwUnit}
use Rattle.dwz_def_encoding.specs.Placing.{UnitSections, numbering, sections}
use Rattle.dwz_def_encoding.specs.Writing.{Numbering}
use Rattle.dwz_def_cross.specs.Tops.{WithCommon}
use Rattle.dwz_def_expand.specs.Chosen.{Choice, chosen_units}
use Rattle.dwz_def_expand.specs.Source.{Copy, expanded}

abbrev pub same_copy : {P : Type 0} → (P → P → Bool) → Copy P → Copy P → Bool
same_copy same a b = a.unit == b.unit && same a.source b.source

-- the units of the new file, with the forms of their values
unfoldable pub written : {P : Type 0} → (P → P → Bool) → Choice P → WithCommon P → List (DwUnit (Copy P))
written same c w = chosen_units c (expanded same w)

-- where they stand
abbrev pub expanded_places : {P : Type 0} → (P → P → Bool) → Choice P → WithCommon P → Numbering (Copy P)
expanded_places same c w = numbering (same_copy same) (record { number = 0; units = written same c w } ∷ [])

-- `.debug_info` and `.debug_abbrev`
abbrev pub expanded_sections : {P : Type 0} → (P → P → Bool) → Choice P → WithCommon P → UnitSections
expanded_sections same c w = sections (expanded_places same c w) (written same c w)
